-- A new unit that is taken is the one that the plan has there.
use Rattle.std.proofs.Common.{◌≡◌, ℕ, zero, suc, ◌<◌, List, [], ◌∷◌, ◌++◌, drop, length, map, take, Option, Some, Err, slice_get, refl, sym, ap, subst, ◌∙◌, arith, inl, inr}
use Rattle.std.specs.List.{flat_map}
use Rattle.std.specs.Prelude.{slice_index_or}
use Rattle.std.proofs.lemmas.List.{length-map, map-append}
use Rattle.dwz_check_labels.specs.Files.{IsHereOf}
use Rattle.dwz_def_cross.specs.CrossSame.{EachTwo}
use Rattle.dwz_def_cross.specs.Tops.{WithCommon, units_with_common, whole_units}
use Rattle.dwz_def_encoding.proofs.ReadAgain.{bases_read}
use Rattle.dwz_def_encoding.specs.Bases.{Bases, bases_in}
use Rattle.dwz_def_expand.specs.Chosen.{paths_of_unit, paths_at}
use Rattle.dwz_def_expand.specs.Refusals.{SiteFault, Where, nodes, sites_in, sites_of}
use Rattle.dwz_def_expand.specs.Source.{source_places, source_unit}
use Rattle.dwz_def_reading.specs.Documents.{DwUnit, Entries, Node, kind_map}
use Rattle.dwz_def_reading.specs.FirstOf.{OfFirst}
use Rattle.dwz_def_reading.specs.Meanings.{base_in, first_raw, scope_of}
use Rattle.dwz_def_reading.specs.Trees.{End, Entry}
use Rattle.dwz_def_reading.specs.Units.{RawUnit}
use Rattle.dwz_def_tops.specs.Shown.{units_keys}
use Rattle.dwz_expand_sources.specs.Imports.{same}
use Rattle.dwz_graph.specs.Here.{Here}
use Rattle.dwz_graph.specs.Resolved.{sources_view}
use Rattle.dwz_model.proofs.ListFacts.{got_below, got_index_or, got_there, same_got}
use Rattle.dwz_model.specs.Lists.{Each, NoneTwice}
use Rattle.dwz_model.specs.declared.fault.Fault.{Fault}
use Rattle.dwz_expand_sources.specs.Rows.{AreCopies}
use Rattle.dwz_expand_layout.specs.Depths.{DeepLine, with_ends}
use Rattle.dwz_expand_layout.specs.Lines.{Line, line, lines}
use Rattle.dwz_expand_layout.specs.Shown.{KindShows}
use Rattle.dwz_expand_layout.specs.declared.entries.NewKind.{NewKind}
use Rattle.dwz_expand_sources.specs.declared.sources.NewUnit.{NewUnit}
use Rattle.dwz_expand_sources.specs.declared.sources.SourceRange.{SourceRange}
use Rattle.dwz_expand_sources.specs.Sources.{AreSources, IsNewUnit, IsRange, Sources, all_entries, in_range, ranges_of}
use Rattle.dwz_expand_passes.specs.Files.{KnowsCommon, KnowsFile, StandSo, around_at, around_beside, common_of, forms_of, raw_in}
use Rattle.dwz_expand_passes.specs.declared.files.SourceFile.{SourceFile}
use Rattle.dwz_expand_passes.specs.declared.paths.TablePaths.{TablePaths}
use Rattle.dwz_expand_passes.specs.Paths.{IsPathsOf}
use Rattle.dwz_expand_passes.specs.declared.files.Known.{Known}
use Rattle.dwz_expand_sources.proofs.GotLemmas.{each_there, sources_got}
use Rattle.dwz_expand_sources.specs.Walk.{sources_of}
use Rattle.dwz_expand_passes.specs.Passes.{IsPlanned, Says, entry_many, forms_in}
use Rattle.dwz_expand_passes.specs.Steps.{AreCopied, IsCopied, KnowsHere, RefusesIn, RefusesLines, a_unit}
use Rattle.dwz_expand_passes.specs.Units.{IsNewOf, RefusesAt, RefusesUnit}
use Rattle.dwz_model.specs.declared.fault.ReadErr.{ReadErr}
use Rattle.dwz_model.specs.declared.fault.ReadErr.TheVariants.{NoMemory, Refused}
use Rattle.dwz_def_expand.specs.Chosen.{choice}
use Rattle.dwz_expand_passes.specs.declared.new_file.NewFile.{NewFile}
use Rattle.dwz_expand_passes.proofs.KindLemmas.{raw_unit}
use Rattle.dwz_expand_passes.proofs.LineLemmas.{all_nodes, listed_node, node_of}
use Rattle.dwz_expand_passes.proofs.NumberLemmas.{numbers_law}
use Rattle.dwz_expand_passes.proofs.StandLemmas.{lines_law}
use Rattle.dwz_expand_passes.specs.CopiesOf.{HasCopies, IsCopyOf, named_copy}
use Rattle.dwz_expand_passes.specs.Lined.{StandsAs, all_lines}
use Rattle.dwz_expand_passes.specs.Numbered.{key_in}

-- ---- the plan

pub two_at : {X Y : Type 0} (R : X → Y → Type 0) (xs : List X) (ys : List Y) (n : ℕ) (x : X) → EachTwo R xs ys → slice_get xs n ≡ Some x → (y : Y) × (slice_get ys n ≡ Some y) × R x y
two_at R [] ys n x two found = absurd cc
two_at R (a ∷ xs) [] n x two found = absurd two
two_at R (a ∷ xs) (b ∷ ys) zero x two found = (let one : a ≡ x = cc in (b, refl, subst (λ (z : _). R z b) one two.0))
two_at R (a ∷ xs) (b ∷ ys) (suc n) x two found = two_at R xs ys n x two.1 found

pub two_here : {X Y : Type 0} (R : X → Y → Type 0) (xs : List X) (ys : List Y) (n : ℕ) (x : X) (y : Y) → EachTwo R xs ys → slice_get xs n ≡ Some x → slice_get ys n ≡ Some y → R x y
two_here R xs ys n x y two found there =
    let t = two_at R xs ys n x two found in
    subst (λ (z : _). R x z) (same_got ys n t.0 y t.1 there) t.2

each_take : {X : Type 0} (P : X → Type 0) (n : ℕ) (xs : List X) → Each P xs → Each P (take n xs)
each_take P zero xs h = tt
each_take P (suc n) [] h = tt
each_take P (suc n) (x ∷ xs) h = (h.0, each_take P n xs h.1)

each_drop : {X : Type 0} (P : X → Type 0) (n : ℕ) (xs : List X) → Each P xs → Each P (drop n xs)
each_drop P zero xs h = h
each_drop P (suc n) [] h = tt
each_drop P (suc n) (x ∷ xs) h = each_drop P n xs h.1

-- what holds of all ranges holds of those of a unit
unit_ranges : (P : SourceRange → Type 0) (ranges : List SourceRange) (x : NewUnit) → Each P ranges → Each P (ranges_of ranges x)
unit_ranges P ranges x h = each_take P _ (drop x.first ranges) (each_drop P x.first ranges h)

two_first : {X : Type 0} (all : List X) (is : List ℕ) (xs : List X) → EachTwo (λ i x. slice_get all i ≡ Some x) is xs → Each (λ i. i < length all) is
two_first all [] xs h = tt
two_first all (i ∷ is) [] h = absurd h
two_first all (i ∷ is) (x ∷ xs) h = (got_below all i x h.0, two_first all is xs h.1)

-- the sources of a unit are among all entries
pub sources_within : (w : WithCommon ℕ) (s : Sources) (n : ℕ) (x : NewUnit) (u : DwUnit ℕ) → AreSources w s → IsNewUnit w s.ranges x u → Each (λ i. i < length (all_entries w)) (sources_of s.ranges x)
sources_within w s n x u are new =
    two_first (all_entries w) (sources_of s.ranges x) ((u.root, u.below) ∷ flat_map (in_range (all_entries w)) (ranges_of s.ranges x))
    (sources_got (all_entries w) s.ranges x (u.root, u.below) new.root (unit_ranges (IsRange (length (all_entries w))) s.ranges x are.ranges))

lines_long : (w : WithCommon ℕ) → length (all_lines w) ≡ length (all_entries w)
lines_long w =
    sym (length-map (all_lines w) node_of) ∙ ap (λ (ns : List (Node ℕ)). length ns) (all_nodes (units_with_common w)) ∙ length-map (all_entries w) listed_node

-- ---- what is known

pub knows_here : (k : Known) (w : WithCommon ℕ) (stands : Where ℕ) (s : Sources) (roots : List ℕ) → KnowsFile k.own (around_at k) w.own → StandSo k.own (around_at k) (λ n. n) stands
    → KnowsCommon k.common w.common stands → AreSources w s → NoneTwice (units_keys (units_with_common w)) → AreCopies s roots k.copies.now → length (all_entries w) ≡ length k.copies.now.first
    → k.copies.now.unit < length s.units → k.copies.now.unit ≡ k.unit → IsPathsOf ((forms_of k w).paths k.unit) k.paths.now → KnowsHere k w stands
knows_here k w stands s roots own own_stands common are apart copies many inside unit paths = record {
  own = own;
  own_stands = own_stands;
  common = common;
  copies = record { sources = s; roots = roots; are = are; apart = apart; copies = copies; many = many; inside = inside };
  unit = unit;
  keys_are = λ u p n is. ap (key_in w) is.counts ∙ numbers_law w u p is.before is.stands;
  paths = paths;
}

-- the line table of a new unit is that of the unit of which it comes
pub line_told : (x : NewFile) (w : WithCommon ℕ) (stands : Where ℕ) → Says x w stands → (unit : ℕ) (u : DwUnit ℕ) (h : Here) → unit < length (raw_in x.own) → slice_get w.own unit ≡ Some u
    → IsHereOf (raw_in x.own) unit h
    → h.line ≡ (bases_in u).line
line_told x w stands says unit u h lt found here =
    let raw = raw_in x.own in
    let around = around_beside x.own (common_of x.common) in
    let r = raw_unit w raw around says.own.means refl unit u lt found in
    let one : here.u ≡ r.0 = same_got raw unit here.u r.0 here.is_unit r.1 in
    here.here.line ∙ ap (λ (y : RawUnit). base_in (first_raw 0x10 y.root.attrs)) one ∙ ap (λ (b : Bases). b.line) (bases_read (scope_of around r.0) u.root.attrs r.2.root.attrs)

-- ---- its entries

nodes_are : (depth : ℕ) (f : Entries ℕ) → map node_of (lines depth f) ≡ nodes f
unfolding lines nodes
nodes_are depth End = refl
nodes_are depth (Entry e c n) = ap (λ (ns : List (Node ℕ)). e ∷ ns) (map-append node_of (lines (suc depth) c) (lines depth n) ∙ (λ i. nodes_are (suc depth) c i ++ nodes_are depth n i))

copies_of : (k : Known) (w : WithCommon ℕ) (stands : Where ℕ) (deep : List DeepLine) (ls : List (Line ℕ)) → EachTwo (IsCopied k w stands) deep ls → EachTwo (IsCopyOf w (forms_of k w) k.unit) deep ls
copies_of k w stands [] [] h = tt
copies_of k w stands [] (l ∷ ls) h = absurd h
copies_of k w stands (d ∷ deep) [] h = absurd h
copies_of k w stands (d ∷ deep) (l ∷ ls) h = (h.0.copy, copies_of k w stands deep ls h.1)

pub no_first : {X Y : Type 0} (Has : Y → X → Type 0) (ys zs : List Y) → ((x : X) → ¬ OfFirst Has ys x) → ((x : X) → ¬ OfFirst Has zs x) → (x : X) → ¬ OfFirst Has (ys ++ zs) x
no_first Has [] zs a b x h = b x h
no_first Has (y ∷ ys) zs a b x (inl has) = a x (inl has)
no_first Has (y ∷ ys) zs a b x (inr later) = no_first Has ys zs (λ z first. a z (inr (later.0, first))) b x later.1

free_of : (k : Known) (w : WithCommon ℕ) (stands : Where ℕ) (deep : List DeepLine) (ls : List (Line ℕ)) → EachTwo (IsCopied k w stands) deep ls → (f : Fault) → ¬ RefusesLines k w stands ls f
unfolding sites_in
free_of k w stands [] [] h f refuses = refuses
free_of k w stands [] (l ∷ ls) h f refuses = absurd h
free_of k w stands (d ∷ deep) [] h f refuses = absurd h
free_of k w stands (d ∷ deep) (l ∷ ls) h f refuses =
    no_first (SiteFault same (source_places same w) (forms_of k w) stands) (sites_of k.unit l.node.at 0 l.node.attrs) (sites_in k.unit (map (λ (m : Line ℕ). m.node) ls)) h.0.free
    (free_of k w stands deep ls h.1) f refuses

-- ---- the unit at hand

pub each_to : {X : Type 0} (P Q : X → Type 0) (xs : List X) → ((x : X) → P x → Q x) → Each P xs → Each Q xs
each_to P Q [] f h = tt
each_to P Q (x ∷ xs) f h = (f x h.0, each_to P Q xs f h.1)

pub got_item : {X : Type 0} (xs : List X) (n : ℕ) (d : X) → n < length xs → slice_get xs n ≡ Some (slice_index_or xs n d)
got_item {X} xs n d lt = (let t = got_there xs n lt in t.1 ∙ ap (λ (x : X). Some x) (sym (got_index_or xs n t.0 d t.1)))

pub planned_unit : (x : NewFile) (p : IsPlanned x) (n : ℕ) (new : NewUnit) → slice_get x.sources.now.units n ≡ Some new → new.unit < length (raw_in x.own)
planned_unit x p n new found =
    let t = two_at (IsNewUnit p.w x.sources.now.ranges) x.sources.now.units (whole_units p.w.own) n new p.are.units found in
    let lt = got_below p.w.own new.unit t.0 t.2.unit in
    let units = p.units in
    omega (arith, lt, units)

pub planned_within : (x : NewFile) (p : IsPlanned x) (n : ℕ) (new : NewUnit) → slice_get x.sources.now.units n ≡ Some new → Each (λ i. i < entry_many x) (sources_of x.sources.now.ranges new)
planned_within x p n new found =
    let t = two_at (IsNewUnit p.w x.sources.now.ranges) x.sources.now.units (whole_units p.w.own) n new p.are.units found in
    subst (λ (m : ℕ). Each (λ i. i < m) (sources_of x.sources.now.ranges new)) p.many (sources_within p.w x.sources.now n new t.0 p.are t.2)

pub paths_told : (x : NewFile) (w : WithCommon ℕ) (stands : Where ℕ) → Says x w stands → (n : ℕ) (new : NewUnit) → slice_get x.sources.now.units n ≡ Some new → (h : Here)
    → new.unit < length (raw_in x.own) → IsHereOf (raw_in x.own) new.unit h → (t : TablePaths) → IsPathsOf (paths_at (sources_view x.own.sections.now) h.line) t
    → IsPathsOf ((forms_in x w).paths n) t
paths_told x w stands says n new found h lt here t paths =
    let s = sources_view x.own.sections.now in
    let y = two_at (IsNewUnit w x.sources.now.ranges) x.sources.now.units (whole_units w.own) n new says.are.units found in
    let line = line_told x w stands says new.unit y.0 h lt y.2.unit here in
    let is : paths_at s h.line ≡ paths_of_unit s (slice_get (whole_units w.own) n) =
    ap (paths_at s) line ∙ sym (ap (λ (o : Option (DwUnit ℕ)). paths_of_unit s o) y.1) in
    subst (λ (ps : Option (List (List ℕ))). IsPathsOf ps t) is paths

module _ (x : NewFile) (n : ℕ) (k : Known) (walk : List ℕ) (new : NewUnit) (found : slice_get x.sources.now.units n ≡ Some new) (walk_is : walk ≡ sources_of x.sources.now.ranges new)
    (own : k.own ≡ x.own) (unit : k.unit ≡ n) (know : (w : WithCommon ℕ) (stands : Where ℕ) → Says x w stands → KnowsHere k w stands) where
  module _ (w : WithCommon ℕ) (stands : Where ℕ) (says : Says x w stands) (u : DwUnit ℕ) (whole : slice_get (whole_units w.own) n ≡ Some u) where
    abbrev ls : List (Line ℕ)
    ls = line 1 u.root ∷ flat_map (in_range (all_lines w)) (ranges_of x.sources.now.ranges new)

    stands_here : StandsAs w x.sources.now.ranges new u
    stands_here = two_here (StandsAs w x.sources.now.ranges) x.sources.now.units (whole_units w.own) n new u (lines_law w x.sources.now says.are says.apart) found whole

    at_lines : EachTwo (λ i l. slice_get (all_lines w) i ≡ Some l) walk ls
    at_lines =
        let ranges = subst (λ (m : ℕ). Each (IsRange m) x.sources.now.ranges) (sym (lines_long w)) says.are.ranges in
        subst (λ (is : List ℕ). EachTwo (λ i l. slice_get (all_lines w) i ≡ Some l) is ls) (sym walk_is)
        (sources_got (all_lines w) x.sources.now.ranges new (line 1 u.root) stands_here.root (unit_ranges (IsRange (length (all_lines w))) x.sources.now.ranges new ranges))

    nodes_here : map node_of ls ≡ u.root ∷ nodes (source_unit same (units_with_common w) u).below
    nodes_here =
        ap (λ (ns : List (Node ℕ)). u.root ∷ ns) (ap (map node_of) stands_here.below ∙ nodes_are 2 (source_unit same (units_with_common w) u).below)

    abbrev Faulty : SourceFile → ℕ → List (Node ℕ) → Fault → Type 0
    Faulty f m ns = OfFirst (SiteFault same (source_places same w) (choice same w (sources_view f.sections.now)) stands) (sites_in m ns)

    unit_refuses : (f : Fault) → RefusesLines k w stands ls f → RefusesUnit x w stands n u f
    unit_refuses f r =
        subst (λ (ns : List (Node ℕ)). Faulty x.own n ns f) nodes_here
        (subst (λ (m : ℕ). Faulty x.own m (map node_of ls) f) unit (subst (λ (y : SourceFile). Faulty y k.unit (map node_of ls) f) own r))

    lines_refuse : (f : Fault) → RefusesUnit x w stands n u f → RefusesLines k w stands ls f
    lines_refuse f r =
        subst (λ (y : SourceFile). Faulty y k.unit (map node_of ls) f) (sym own)
        (subst (λ (m : ℕ). Faulty x.own m (map node_of ls) f) (sym unit) (subst (λ (ns : List (Node ℕ)). Faulty x.own n ns f) (sym nodes_here) r))

  pub refused_at : (e : ReadErr) → RefusesIn {Y = Unit {0}} k walk (Err e) → RefusesAt {Y = Unit {0}} x n (Err e)
  refused_at NoMemory r = tt
  refused_at (Refused f) r = λ w stands says u whole. unit_refuses w stands says u whole f (r w stands (know w stands says) (ls w stands says u whole) (at_lines w stands says u whole))

  module _ (kind : NewKind) (deep : List DeepLine) (kinds : (w : WithCommon ℕ) (stands : Where ℕ) (u : DwUnit ℕ) → Says x w stands → slice_get w.own new.unit ≡ Some u
      → slice_get (whole_units w.own) n ≡ Some u → KindShows (key_in w) kind (kind_map (named_copy w n) u.kind)) (copied : AreCopied k walk deep) where
    are_copied : (w : WithCommon ℕ) (stands : Where ℕ) (says : Says x w stands) (u : DwUnit ℕ) (whole : slice_get (whole_units w.own) n ≡ Some u)
        → EachTwo (IsCopied k w stands) deep (ls w stands says u whole)
    are_copied w stands says u whole =
        each_there (all_lines w) (IsCopied k w stands) walk deep (ls w stands says u whole) (at_lines w stands says u whole) (copied.copies w stands (know w stands says))

    pub new_of : IsNewOf x n (a_unit kind (with_ends deep))
    new_of = record {
      copies = λ w stands says y u at whole. (
          let one : new ≡ y = same_got x.sources.now.units n new y found at in
          let is_new = two_here (IsNewUnit w x.sources.now.ranges) x.sources.now.units (whole_units w.own) n new u says.are.units found whole in
          let stand = stands_here w stands says u whole in
          let l = ls w stands says u whole in
          let copies = copies_of k w stands deep l (are_copied w stands says u whole) in
          let forms = subst (λ (f : SourceFile). EachTwo (IsCopyOf w (choice same w (sources_view f.sections.now)) k.unit) deep l) own copies in
          let has : HasCopies w x.sources.now (forms_in x w) n new u (a_unit kind (with_ends deep)) =
          record {
            kind = kinds w stands u says is_new.unit whole;
            root = line 1 u.root;
            is_root = stand.root;
            deep = deep;
            lines = refl;
            copies = subst (λ (m : ℕ). EachTwo (IsCopyOf w (forms_in x w) m) deep l) unit forms;
            no_roots = copied.no_roots;
          } in
          subst (λ (z : NewUnit). HasCopies w x.sources.now (forms_in x w) n z u (a_unit kind (with_ends deep))) one has);
      free = λ w stands says u whole f refuses. free_of k w stands deep (ls w stands says u whole) (are_copied w stands says u whole) f (lines_refuse w stands says u whole f refuses);
    }

-- The spaces of the units of one file after the other.
use Rattle.std.proofs.Common.{Bor, ◌≡◌, ◌⊎◌, ℕ, zero, suc, ◌+◌, ◌-◌, ◌<◌, ◌≤◌, ◌^◌, List, [], ◌∷◌, ◌++◌, length, map, take, Option, Some, None, Ok, slice_get, refl, sym, ap, subst, ◌∙◌, inl, inr, ⊎_elim, arith}
use Rattle.std.proofs.lemmas.List.{length-append}
use Rattle.std.specs.Option.{option_map}
use Rattle.dwz_model.proofs.ListFacts.{got_below, got_map, same_got}
use Rattle.dwz_model.proofs.Members.{nth_get, nth_of}
use Rattle.dwz_def_reading.specs.Documents.{Compile, Doc, DwUnit, Entries, Kind, Node, OfType, Partial, entries_map, kind_map, node_map, unit_map}
use Rattle.dwz_def_reading.specs.Lists.{In}
use Rattle.dwz_def_reading.specs.Meanings.{Around}
use Rattle.dwz_def_reading.specs.Meant.{units_meaning}
use Rattle.dwz_def_reading.proofs.ListFacts.{got_there}
use Rattle.dwz_def_reading.specs.Trees.{End, Entry}
use Rattle.dwz_def_reading.specs.Units.{entries_in}
use Rattle.dwz_def_taken.specs.Takes.{HasSpace}
use Rattle.dwz_def_tops.specs.Lists.{Nth}
use Rattle.dwz_def_tops.specs.Spaces.{IsSpace, IsUnder, space_text}
use Rattle.dwz_def_tops.specs.Spots.{EntryName, FileUnit, in_file, units_of}
use Rattle.dwz_def_tops.proofs.SpaceLemmas.{text_map}
use Rattle.dwz_check_index.specs.Both.{from_top}
use Rattle.dwz_check_index.specs.Index.{CrossIndex, IsCrossIndex}
use Rattle.dwz_check_sides.specs.SideLaws.{KeptNumberLaw}
use Rattle.dwz_check_sides.specs.Names.{IsListNumber, Keeps}
use Rattle.dwz_check_sides.specs.declared.lists.NameLists.{NameLists}
use Rattle.dwz_graph.specs.Files.{AreKept, docs_of}
use Rattle.dwz_graph.specs.Index.{Index}
use Rattle.dwz_graph.specs.Indexed.{AreIndexes}
use Rattle.dwz_graph.specs.declared.file.File.{File}
use Rattle.dwz_graph.specs.declared.index.Starts.{Starts}
use Rattle.dwz_graph.proofs.IndexRoom.{many_units}
use Rattle.dwz_groups.specs.declared.groups.Edge.{Edge}
use Rattle.dwz_check_labels.specs.FilesSaid.{IsFileSaid, around_given}
use Rattle.dwz_check_sides.specs.Says.{FileSays, IsSide, common_of}
use Rattle.dwz_check_sides.specs.declared.side.Side.{Side}
use Rattle.dwz_graph.proofs.FileCounts.{all_ends, are_many, starts_are}
use Rattle.dwz_graph.proofs.FileWalk.{is_among}
use Rattle.dwz_graph.specs.AcrossLaws.{IsAmong}
use Rattle.dwz_reuse.proofs.FileSteps.{said_alone}
use Rattle.dwz_unit.proofs.ShownLemmas.{units_few}
use Rattle.dwz_graph.proofs.ListGets.{part_get}
use Rattle.dwz_graph.specs.Across.{IsPart, name_at, starts_at, starts_from}
use Rattle.dwz_graph.specs.Few.{entries_in_files}
use Rattle.dwz_unit.specs.Rows.{units_of as raw_units}
use Rattle.dwz_reuse.specs.FileSpaces.{AreUnitSpaces, HaveIndexes, IsUnitSpace}
use Rattle.dwz_reuse.specs.Spaces.{HasNamed, IsNoType, IsSpaceEdge, PutsSpaces, space_edge}

-- ---- how many entries

taken_one : (files : List File) (k : ℕ) (f : File) → slice_get files k ≡ Some f → entries_in_files (take (suc k) files) ≡ entries_in_files (take k files) + entries_in (raw_units f.units)
unfolding entries_in_files
taken_one [] k f e = absurd cc
taken_one (x ∷ files) zero f e = (let same : x ≡ f = cc in let all = ap (λ (w : File). entries_in (raw_units w.units)) same in omega (arith, all))
taken_one (x ∷ files) (suc k) f e = (let more = taken_one files k f e in omega (arith, more))

pub taken_more : (files : List File) (k : ℕ) (f : File) → slice_get files k ≡ Some f → entries_in_files (take (k + 1) files) ≡ entries_in_files (take k files) + entries_in (raw_units f.units)
taken_more files k f e = (let one : k + 1 ≡ suc k = omega arith in ap (λ (n : ℕ). entries_in_files (take n files)) one ∙ taken_one files k f e)

pub taken_low : (files : List File) (k : ℕ) → entries_in_files (take k files) ≤ entries_in_files files
unfolding entries_in_files
taken_low [] zero = omega arith
taken_low [] (suc k) = omega arith
taken_low (x ∷ files) zero = omega arith
taken_low (x ∷ files) (suc k) = (let more = taken_low files k in omega (arith, more))

-- ---- spaces with names

module _ (g : ℕ → EntryName) where
  record NamedUnder (names : List (List ℕ)) (d : Node EntryName) (f : Entries ℕ) : Type 0 where
    node : Node ℕ
    is : node_map g node ≡ d
    under : IsUnder names node f

  under_named : (names : List (List ℕ)) (e : Node ℕ) (f : Entries ℕ) → IsUnder names e f → IsUnder names (node_map g e) (entries_map g f)
  unfolding entries_map
  under_named names e End h = absurd h
  under_named names e (Entry d c n) (inl x) = inl (x.0, ap (node_map g) x.1)
  under_named names e (Entry d c n) (inr (inl x)) = inr (inl (x.0, x.1, text_map g d ∙ x.2, x.3, under_named x.1 e c x.4))
  under_named names e (Entry d c n) (inr (inr x)) = inr (inr (under_named names e n x))

  named_under : (names : List (List ℕ)) (d : Node EntryName) (f : Entries ℕ) → IsUnder names d (entries_map g f) → NamedUnder names d f
  unfolding entries_map
  named_under names d End h = absurd h
  named_under names d (Entry e c n) (inl x) = record { node = e; is = x.1; under = inl (x.0, refl) }
  named_under names d (Entry e c n) (inr (inl x)) =
      let o = named_under x.1 d c x.4 in record { node = o.node; is = o.is; under = inr (inl (x.0, x.1, sym (text_map g e) ∙ x.2, x.3, o.under)) }
  named_under names d (Entry e c n) (inr (inr x)) = let o = named_under names d n x in record { node = o.node; is = o.is; under = inr (inr o.under) }

  space_named : (names : List (List ℕ)) (v : DwUnit ℕ) → HasNamed v names → (d : Node EntryName) × IsSpace names d (unit_map g v).below
  space_named names v h =
      (node_map g h.0, record { outer = h.1.outer; text = h.1.text; under = under_named h.1.outer h.0 v.below h.1.under; own = text_map g h.0 ∙ h.1.own; names_are = h.1.names_are })

  named_space : (names : List (List ℕ)) (v : DwUnit ℕ) (d : Node EntryName) → IsSpace names d (unit_map g v).below → HasNamed v names
  named_space names v d h =
      let o = named_under h.outer d v.below h.under in
      (o.node, record { outer = h.outer; text = h.text; under = o.under; own = sym (text_map g o.node) ∙ ap space_text o.is ∙ h.own; names_are = h.names_are })

  no_type : (k : Kind ℕ) → IsNoType (kind_map g k) → IsNoType k
  no_type Compile h = tt
  no_type (OfType signature main) h = h
  no_type Partial h = tt

-- ---- of one file more

below_or : (u n : ℕ) → (u < n) ⊎ (n ≤ u)
below_or u zero = inr (omega arith)
below_or zero (suc n) = inl (omega arith)
below_or (suc u) (suc n) = ⊎_elim (λ (a : u < n). inl (omega (arith, a))) (λ (b : n ≤ u). inr (omega (arith, b))) (below_or u n)

last_or : {X : Type 0} (xs : List X) (x : X) (j : ℕ) (z : X) → slice_get (xs ++ x ∷ []) j ≡ Some z → (slice_get xs j ≡ Some z) ⊎ ((j ≡ length xs) × (z ≡ x))
last_or [] x zero z e = inr (refl, cc)
last_or [] x (suc j) z e = absurd cc
last_or (y ∷ xs) x zero z e = inl e
last_or (y ∷ xs) x (suc j) z e = ⊎_elim (λ (a : slice_get xs j ≡ Some z). inl a) (λ b. inr (ap suc b.0, b.1)) (last_or xs x j z e)

module _ (law : KeptNumberLaw) (all : List (FileUnit EntryName)) (file : ℕ) (g : ℕ → EntryName) (said : List (DwUnit ℕ)) (first : ℕ) (part : IsPart all first (map (in_file file) (map (unit_map g) said)))
    (before now : NameLists) (keeps : Keeps before now) where
  unit_at : (n : ℕ) (v : DwUnit ℕ) → slice_get said n ≡ Some v → slice_get all (first + n) ≡ Some (in_file file (unit_map g v))
  unit_at n v e = part_get all (map (in_file file) (map (unit_map g) said)) first n (in_file file (unit_map g v)) part
      (got_map (in_file file) (map (unit_map g) said) n (unit_map g v) (got_map (unit_map g) said n v e))

  the_key : (n k : ℕ) → first + n ≡ k → 0 + (first + n) ≡ k
  the_key n k e = omega (arith, e)

  edge_space : (e : Edge) → IsSpaceEdge now first said e → IsUnitSpace now all e
  edge_space e s =
      let at = unit_at s.n s.unit s.got in
      let d = space_named g s.names s.unit s.space in
      record {
        names = s.names;
        space = (in_file file (unit_map g s.unit), d.0, subst (λ (u : ℕ). Nth 0 all u (in_file file (unit_map g s.unit))) (the_key s.n e.key s.key) (nth_of 0 all (first + s.n) (in_file file (unit_map g s.unit)) at), d.1);
        number = s.number;
      }

  old_space : (e : Edge) → IsUnitSpace before all e → IsUnitSpace now all e
  old_space e s = record { names = s.names; space = s.space; number = law.numbers before now keeps s.names e.value s.number }

  abbrev Has : ℕ → List (List ℕ) → List Edge → Type 0
  Has u names edges = (k : ℕ) × IsListNumber now names k × In (space_edge u k) edges

  own_space : (new : List Edge) → ((n : ℕ) (u : DwUnit ℕ) (names : List (List ℕ)) → slice_get said n ≡ Some u → IsNoType u.kind → HasNamed u names → Has (first + n) names new) → (u n : ℕ)
      → first + n ≡ u → n < length said → (f : FileUnit EntryName) (names : List (List ℕ)) → Nth 0 all u f → IsNoType f.unit.kind → HasSpace all u names → Has u names new
  own_space new found u n e low f names nth plain space =
      let o = got_there said n low in
      let at = unit_at n o.0 o.1 in
      let same : f ≡ in_file file (unit_map g o.0) = same_got all (first + n) f (in_file file (unit_map g o.0)) (nth_get 0 all u (first + n) f nth (omega (arith, e))) at in
      let other : space.0 ≡ in_file file (unit_map g o.0) = same_got all (first + n) space.0 (in_file file (unit_map g o.0)) (nth_get 0 all u (first + n) space.0 space.2 (omega (arith, e))) at in
      let kind = no_type g o.0.kind (subst (λ (w : FileUnit EntryName). IsNoType w.unit.kind) same plain) in
      let named = named_space g names o.0 space.1 (subst (λ (w : FileUnit EntryName). IsSpace names space.1 w.unit.below) other space.3) in
      subst (λ (w : ℕ). Has w names new) e (found n o.0 names o.1 kind named)

  pub spaces_next : (next : ℕ) → next ≡ first + length said → (old new : List Edge) → AreUnitSpaces before all first old → PutsSpaces now first said old new → AreUnitSpaces now all next new
  spaces_next next is old new h p = record {
    from = λ e i. ⊎_elim (λ (a : In e old). old_space e (h.from e a)) (λ (b : IsSpaceEdge now first said e). edge_space e b) (p.from e i);
    found = λ u f names low nth plain space. ⊎_elim
        (λ (a : u < first). (
        let o = h.found u f names a nth plain space in
        (o.0, law.numbers before now keeps names o.0 o.1, p.kept (space_edge u o.0) o.2)))
        (λ (b : first ≤ u). own_space new p.found u (u - first) (omega (arith, b)) (omega (arith, is, low, b)) f names nth plain space)
        (below_or u first);
  }

pub none_yet : (known : NameLists) (all : List (FileUnit EntryName)) (before : ℕ) (edges : List Edge) → before ≡ 0 → edges ≡ [] → AreUnitSpaces known all before edges
none_yet known all before edges zero_is none = record {
  from = λ e i. absurd (subst (λ (w : List Edge). In e w) none i);
  found = λ u f names low nth plain space. absurd (omega (arith, zero_is, low));
}

-- ---- a file as a side

pub entries_at : (files : List File) (k : ℕ) (f : File) → slice_get files k ≡ Some f → entries_in (raw_units f.units) ≤ entries_in_files files
entries_at files k f e = (let more = taken_more files k f e in let low = taken_low files (k + 1) in omega (arith, more, low))

module _ (files : List File) (k : ℕ) (indexes : List CrossIndex) (h : HaveIndexes files k indexes) (f : File) (x : CrossIndex) (fe : slice_get files k ≡ Some f) where
  pub one_more : (new : List CrossIndex) → new ≡ indexes ++ x ∷ [] → ((around : Around ℕ) (said : List (DwUnit ℕ)) → units_meaning around (raw_units f.units) ≡ Ok said → IsCrossIndex (from_top 0) said x)
      → HaveIndexes files (k + 1) new
  one_more new e each = record {
    long = ap (λ (w : List CrossIndex). length w) e ∙ length-append indexes (x ∷ []) ∙ ap (λ (n : ℕ). n + 1) h.long;
    each = λ j y z fy zy. ⊎_elim
        (λ (a : slice_get indexes j ≡ Some z). h.each j y z fy a)
        (λ (b : (j ≡ length indexes) × (z ≡ x)). (
        let at : j ≡ k = b.0 ∙ h.long in
        let same : f ≡ y = same_got files k f y fe (subst (λ (n : ℕ). slice_get files n ≡ Some y) at fy) in
        λ around said means. subst (λ (w : CrossIndex). IsCrossIndex (from_top 0) said w) (sym b.1)
        (each around said (subst (λ (w : File). units_meaning around (raw_units w.units) ≡ Ok said) (sym same) means))))
        (last_or indexes x j z (subst (λ (w : List CrossIndex). slice_get w j ≡ Some z) e zy));
  }

module _ (contents : List (List ℕ)) (files : List File) (all : List Index) (kept : AreKept contents files) (is : AreIndexes (docs_of contents) all) (k : ℕ) (f : File) (fe : slice_get files k ≡ Some f) where
  pub own : (x : Index) × (slice_get all k ≡ Some x)
  own = (let many = are_many contents files all kept is in let low = got_below files k f fe in got_there all k (omega (arith, many, low)))

  pub known : IsAmong contents k f own.0
  known = is_among contents files all k f own.0 kept is fe own.1

  abbrev pub doc : Doc ℕ
  doc = known.is.kept.read.doc

  said_is : IsFileSaid f None doc.units
  said_is = said_alone known.is.kept.limits k known.bytes f known.is.kept.read

  file_says : FileSays f None doc.units
  file_says = record { around = around_given f None; sources = refl; all = refl; place = refl; common_is = tt; means = said_is.means }

  pub side_is : (indexes : List CrossIndex) (index : CrossIndex) → HaveIndexes files (length files) indexes → slice_get indexes k ≡ Some index → (s : Side) → s.file.now ≡ f → s.common ≡ None → s.index.now ≡ index
      → IsSide s doc.units (from_top 0)
  side_is indexes index have got s file_is none index_is =
      let common : common_of s ≡ None = ap (λ (o : Option (Bor File)). option_map {T = Bor File} {U = File} (λ w. w.now) o) none in
      record {
        says = subst (λ (w : File). FileSays w (common_of s) doc.units) (sym file_is) (subst (λ (o : Option File). FileSays f o doc.units) (sym common) file_says);
        index_is = subst (λ (w : CrossIndex). IsCrossIndex (from_top 0) doc.units w) (sym index_is) (have.each k f index fe got (around_given f None) doc.units said_is.means);
        few = subst (λ (w : File). entries_in (raw_units w.units) ≤ 2 ^ 28) (sym file_is) said_is.few;
      }

  unit_is : own.0.starts.unit ≡ (starts_at (docs_of contents) all k).unit
  unit_is = ap (λ (s : Starts). s.unit) (starts_are contents files all k f own.0 kept is fe own.1).0

  pub unit_next : (starts_at (docs_of contents) all (k + 1)).unit ≡ (starts_at (docs_of contents) all k).unit + length (raw_units f.units)
  unit_next =
      let next = ap (λ (s : Starts). s.unit) (starts_are contents files all k f own.0 kept is fe own.1).1 in
      let here = unit_is in
      omega (arith, next, here)

  pub file_next : (law : KeptNumberLaw) (before now : NameLists) → Keeps before now → (first : ℕ) → first ≡ (starts_at (docs_of contents) all k).unit → (old new : List Edge)
      → AreUnitSpaces before (units_of (docs_of contents)) (starts_at (docs_of contents) all k).unit old
      → PutsSpaces now first doc.units old new → AreUnitSpaces now (units_of (docs_of contents)) (starts_at (docs_of contents) all (k + 1)).unit new
  file_next law before now keeps first e old new h p =
      let start = own.0.starts in
      let here : (starts_at (docs_of contents) all k).unit ≡ start.unit = sym unit_is in
      let many = many_units known.is.kept.limits known.bytes (raw_units f.units) doc known.is.kept.read.means in
      let next = unit_next in
      spaces_next law (units_of (docs_of contents)) k (name_at start doc) doc.units start.unit known.is.units before now keeps (starts_at (docs_of contents) all (k + 1)).unit (omega (arith, next, here, many)) old new
      (subst (λ (n : ℕ). AreUnitSpaces before (units_of (docs_of contents)) n old) here h) (subst (λ (n : ℕ). PutsSpaces now n doc.units old new) (e ∙ here) p)

pub files_end : (contents : List (List ℕ)) (files : List File) (all : List Index) (k : ℕ) → AreKept contents files → AreIndexes (docs_of contents) all → length files ≤ k → k ≤ length files
    → (starts_at (docs_of contents) all k).unit ≡ length (units_of (docs_of contents))
files_end contents files all k kept is high most =
    let many = are_many contents files all kept is in
    let last : k ≡ length all = omega (arith, many, high, most) in
    ap (λ (n : ℕ). (starts_at (docs_of contents) all n).unit) last ∙ (all_ends contents all is).0

pub unit_zero : (docs : List (Doc ℕ)) (all : List Index) → (starts_at docs all 0).unit ≡ 0
unfolding starts_from
unit_zero docs all = refl

-- ---- room

module _ (files : List File) (k : ℕ) (f : File) (fe : slice_get files k ≡ Some f) (few : entries_in_files files ≤ 2 ^ 24) where
  pub room_at : entries_in_files (take k files) + entries_in (raw_units f.units) ≤ 2 ^ 24
  room_at = (let more = taken_more files k f fe in let low = taken_low files (k + 1) in omega (arith, more, low, few))

  pub units_low : length (raw_units f.units) ≤ entries_in (raw_units f.units)
  units_low = units_few (raw_units f.units)

pub none_entries : (files : List File) → 1 ≡ 1 + entries_in_files (take 0 files)
unfolding entries_in_files
none_entries files = refl

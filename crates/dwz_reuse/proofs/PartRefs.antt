-- Which partial units refer into which others, by places that are named by their units.
use Rattle.std.proofs.Common.{◌≡◌, ◌↔◌, ℕ, ◌+◌, ◌<◌, ◌≤◌, ◌==◌, All, Bool, true, false, List, [], ◌∷◌, length, map, None, Option}
use Rattle.std.proofs.Common.{Some, Ok, slice_get, refl, sym, ap, subst, ◌∙◌, inl, inr, ⊎_elim, arith}
use Rattle.std.specs.Prelude.{◌&&◌, ◌||◌, not}
use Rattle.std.specs.List.{list_any}
use Rattle.std.proofs.lemmas.Bool.{cases_lt, false≢true, ne_eqb}
use Rattle.std.proofs.lemmas.List.{length-map}
use Rattle.dwz_model.proofs.ListFacts.{got_below, got_in, got_index_or, got_map, got_there, in_cases, in_left, in_map, in_right, same_got}
use Rattle.dwz_model.proofs.Members.{in_nth, nth_get, nth_of}
use Rattle.dwz_def_reading.proofs.MeaningUnits.{units_agree}
use Rattle.dwz_def_reading.specs.Documents.{Attr, Doc, DwUnit, Entries, attr_map, entries_map, unit_map}
use Rattle.dwz_def_reading.specs.Lists.{In}
use Rattle.dwz_def_reading.specs.Meanings.{Around, MeanUnits}
use Rattle.dwz_def_reading.specs.Meant.{units_meaning}
use Rattle.dwz_def_reading.specs.Trees.{End, Entry}
use Rattle.dwz_def_reading.specs.Units.{RawUnit, entries_in}
use Rattle.dwz_def_images.specs.After.{ArePlaced}
use Rattle.dwz_def_taken.specs.Beside.{Reused, as_compile, reused_of, together}
use Rattle.dwz_def_taken.specs.Takes.{PartRefers, attr_goes_to, is_of_unit, unit_goes_to}
use Rattle.dwz_def_tops.proofs.SeenLemmas.{entry_seen, root_from, root_seen, seen_from}
use Rattle.dwz_def_tops.proofs.ShownLemmas.{seen_key}
use Rattle.dwz_def_tops.specs.Alike.{any_attr, any_entry, has_operand, is_in}
use Rattle.dwz_def_tops.specs.Lists.{NoneTwice, Nth}
use Rattle.dwz_def_tops.specs.Seen.{Named, Seen, all_seen, named_value, see, seen, seen_below, seen_roots}
use Rattle.dwz_def_tops.specs.Shown.{units_keys}
use Rattle.dwz_def_tops.specs.Spots.{EntryName, FileUnit, in_file, tops_of}
use Rattle.dwz_graph.proofs.IndexRoom.{units_same}
use Rattle.dwz_check_labels.specs.FilesSaid.{around_given}
use Rattle.dwz_graph.specs.Parts.{AreParted}
use Rattle.dwz_graph.specs.Resolved.{AreEntries, place_at}
use Rattle.dwz_graph.specs.declared.file.File.{File}
use Rattle.dwz_move.specs.Known.{KnowsRefs, tops_of_refs}
use Rattle.dwz_groups.specs.declared.groups.Edge.{Edge}
use Rattle.dwz_groups.specs.Groups.{grouped}
use Rattle.dwz_groups.proofs.MarkLemmas.{each_pair, edge_grouped, grouped_edge}
use Rattle.dwz_match.proofs.CommonTops.{commons_are, spot_of, whole_units}
use Rattle.dwz_match.specs.Partial.{ArePartial}
use Rattle.dwz_reuse.proofs.CommonPlaced.{compile_keys, compile_seen}
use Rattle.dwz_takes.specs.Takes.{AreBelow, list_at}
use Rattle.dwz_unit.specs.Rows.{EntryRow, rows_of, units_of as raw_units}
use Rattle.dwz_reuse.specs.Read.{IsCommonRead}
use Rattle.dwz_reuse.specs.Puts.{NamesUnits, PutsUnits, Refers}
use Rattle.dwz_reuse.proofs.SpotUnits.{of_unit}
use Rattle.dwz_reuse.proofs.UnitPlaces.{at_unit, entries_at, row_unit, unit_at, unit_name}

-- ---- nothing goes nowhere

refs_nowhere : (ss : List EntryName) → list_any (λ (s : EntryName). false) ss ≡ false
refs_nowhere [] = refl
refs_nowhere (s ∷ ss) = refs_nowhere ss

and_nowhere : (b c : Bool) → c ≡ false → (b && c) ≡ false
and_nowhere true c e = e
and_nowhere false c e = refl

attrs_nowhere : (attrs : List (Attr EntryName)) → list_any (attr_goes_to (λ (s : EntryName). false)) attrs ≡ false
attrs_nowhere [] = refl
attrs_nowhere (a ∷ attrs) = λ i. and_nowhere (not (has_operand a.value.plain)) (list_any (λ (s : EntryName). false) a.value.refs) (refs_nowhere a.value.refs) i || attrs_nowhere attrs i

entries_nowhere : (f : Entries EntryName) → any_entry (any_attr (attr_goes_to (λ (s : EntryName). false))) f ≡ false
unfolding any_entry
entries_nowhere End = refl
entries_nowhere (Entry e f g) = λ i. attrs_nowhere e.attrs i || (entries_nowhere f i || entries_nowhere g i)

goes_nowhere : (u : DwUnit EntryName) → unit_goes_to (λ (s : EntryName). false) u ≡ false
goes_nowhere u = λ i. attrs_nowhere u.root.attrs i || entries_nowhere u.below i

module _ (docs : List (Doc ℕ)) (doc : Doc ℕ) (partial : ArePartial doc.units) (placed : ArePlaced (map as_compile doc.units)) where
  abbrev said : List (DwUnit ℕ)
  said = doc.units

  abbrev r : Reused
  r = reused_of docs doc

  abbrev name : ℕ → EntryName
  name = unit_name said

  abbrev spot : ℕ → EntryName
  spot = spot_of docs doc

  once : NoneTwice (units_keys said)
  once = subst NoneTwice (compile_keys said) placed.apart

  abbrev Known : ℕ → Type 0
  Known p = (k : ℕ) × (u : DwUnit ℕ) × (slice_get said k ≡ Some u) × In p (entries_at u)

  unit_known : (u : DwUnit ℕ) (p : ℕ) → In u said → In p (entries_at u) → Known p
  unit_known u p there here = let f = in_nth 0 said u there in (f.number, u, nth_get 0 said f.number f.number u f.nth (omega arith), here)

  seen_known : (d : Seen ℕ) → In d (all_seen said) → Known d.at
  seen_known d i = ⊎_elim
      (λ (a : In d (seen_roots said)). (let o = root_from said d a in subst (λ (w : Seen ℕ). Known w.at) o.is (unit_known o.unit (o.unit).root.at o.there (inl refl))))
      (λ (b : In d (seen_below said)). (let o = seen_from said d b in unit_known o.unit d.at o.there (inr (seen_key (o.unit).below d o.is))))
      (in_cases d (seen_roots said) (seen_below said) i)

  ref_known : (e : Seen ℕ) (a : Named ℕ) (p : ℕ) → In e (all_seen said) → In a e.attrs → In p a.value.refs → Known p
  ref_known e a p i j k =
      let d = placed.closed e a p (subst (λ (w : List (Seen ℕ)). In e w) (sym (compile_seen said)) i) j k in
      subst Known d.2 (seen_known d.0 (subst (λ (w : List (Seen ℕ)). In d.0 w) (compile_seen said) d.1))

  -- tests that say the same of all places say the same of references
  module _ (into of : EntryName → Bool) (f g : ℕ → EntryName) (same : (p : ℕ) → Known p → into (f p) ≡ of (g p)) where
    refs_same : (ps : List ℕ) → ((p : ℕ) → In p ps → Known p) → list_any into (map f ps) ≡ list_any of (map g ps)
    refs_same [] h = refl
    refs_same (p ∷ ps) h = λ i. same p (h p (inl refl)) i || refs_same ps (λ x j. h x (inr j)) i

    attrs_same : (attrs : List (Attr ℕ)) → ((a : Attr ℕ) (p : ℕ) → In a attrs → In p a.value.refs → Known p)
        → list_any (attr_goes_to into) (map (attr_map f) attrs) ≡ list_any (attr_goes_to of) (map (attr_map g) attrs)
    attrs_same [] h = refl
    attrs_same (a ∷ attrs) h = λ i. (not (has_operand a.value.plain) && refs_same a.value.refs (λ p j. h a p (inl refl) j) i) || attrs_same attrs (λ b p j k. h b p (inr j) k) i

    node_same : (e : Seen ℕ) (attrs : List (Attr ℕ)) → In e (all_seen said) → e.attrs ≡ map named_value attrs
        → list_any (attr_goes_to into) (map (attr_map f) attrs) ≡ list_any (attr_goes_to of) (map (attr_map g) attrs)
    node_same e attrs i are = attrs_same attrs (λ a p j k. ref_known e (named_value a) p i (subst (λ (w : List (Named ℕ)). In (named_value a) w) (sym are) (in_map named_value a attrs j)) k)

    entries_same : (x : Entries ℕ) → ((d : Seen ℕ) → In d (seen x) → In d (all_seen said))
        → any_entry (any_attr (attr_goes_to into)) (entries_map f x) ≡ any_entry (any_attr (attr_goes_to of)) (entries_map g x)
    unfolding any_entry entries_map seen
    entries_same End h = refl
    entries_same (Entry e x y) h =
        let a = node_same (see e x) e.attrs (h (see e x) (inl refl)) refl in
        let b = entries_same x (λ d i. h d (inr (in_left d (seen x) (seen y) i))) in
        let c = entries_same y (λ d i. h d (inr (in_right d (seen x) (seen y) i))) in
        λ i. a i || (b i || c i)

    goes_same : (u : DwUnit ℕ) → In u said → unit_goes_to into (unit_map f u) ≡ unit_goes_to of (unit_map g u)
    goes_same u there =
        let root = node_same (see u.root u.below) u.root.attrs (root_seen said u there) refl in
        let below = entries_same u.below (λ d i. entry_seen said u d there i) in
        λ i. root i || below i

  at_known : (p : ℕ) (known : Known p) → unit_at 0 said p ≡ known.0
  at_known p (k, u, got, here) = at_unit 0 said k u p once got here ∙ (let z : 0 + k ≡ k = omega arith in z)

  abbrev nowhere : EntryName → Bool
  nowhere s = false

  -- no unit has a number that is too high
  high : (q : ℕ) (v : DwUnit ℕ) → In v said → length said ≤ q → unit_goes_to (is_in q) (unit_map name v) ≡ true → ⊥
  high q v there le goes =
      let wrong : (p : ℕ) (known : Known p) → is_in q (name p) ≡ false = λ p known.
      ne_eqb (unit_at 0 said p) q (λ e. (let low = got_below said known.0 known.1 known.2 in let at = at_known p known in omega (arith, e, low, at, le))) in
      false≢true (sym (goes_same (is_in q) nowhere name name wrong v there ∙ goes_nowhere (unit_map name v)) ∙ goes)

  module _ (q : ℕ) where
    abbrev of : EntryName → Bool
    of = is_of_unit (tops_of (together r)) (length r.units + q)

    both : (p : ℕ) → Known p → is_in q (name p) ≡ of (spot p)
    both p (k, u, got, here) = ap (λ (n : ℕ). n == q) (at_known p (k, u, got, here)) ∙ sym (of_unit docs doc partial placed k q u p got here)

    part_same : (u : DwUnit ℕ) → In u said → unit_goes_to (is_in q) (unit_map name u) ≡ unit_goes_to of (unit_map spot (as_compile u))
    part_same u there = goes_same (is_in q) of name spot both u there

    at_part : (p : ℕ) (v : DwUnit ℕ) → slice_get said p ≡ Some v → slice_get (whole_units (length docs) spot said) p ≡ Some (in_file (length docs) (unit_map spot (as_compile v)))
    at_part p v got = got_map (in_file (length docs)) (map (unit_map spot) (map as_compile said)) p _ (got_map (unit_map spot) (map as_compile said) p _ (got_map as_compile said p v got))

    refers_to : (p : ℕ) → Refers name said p q → PartRefers r p q
    refers_to p (v, got, goes) =
        let f = in_file (length docs) (unit_map spot (as_compile v)) in
        let z : 0 + p ≡ p = omega arith in
        let nth : Nth 0 (whole_units (length docs) spot said) p f =
        subst (λ (n : ℕ). Nth 0 (whole_units (length docs) spot said) n f) z (nth_of 0 (whole_units (length docs) spot said) p f (at_part p v got)) in
        (f, subst (λ (w : List (FileUnit EntryName)). Nth 0 w p f) (sym (commons_are docs doc)) nth, sym (part_same v (got_in said p v got)) ∙ goes)

    refers_from : (p : ℕ) → PartRefers r p q → Refers name said p q
    refers_from p (f, nth, goes) =
        let z : p ≡ 0 + p = omega arith in
        let here : slice_get (whole_units (length docs) spot said) p ≡ Some f =
        nth_get 0 (whole_units (length docs) spot said) p p f (subst (λ (w : List (FileUnit EntryName)). Nth 0 w p f) (commons_are docs doc) nth) z in
        let low = got_below (whole_units (length docs) spot said) p f here in
        let long = length-map (map (unit_map spot) (map as_compile said)) (in_file (length docs)) ∙ length-map (map as_compile said) (unit_map spot) ∙ length-map said as_compile in
        let o = got_there said p (omega (arith, low, long)) in
        let same = same_got (whole_units (length docs) spot said) p f _ here (at_part p o.0 o.1) in
        (o.0, o.1, part_same o.0 (got_in said p o.0 o.1) ∙ sym (ap (λ (w : FileUnit EntryName). unit_goes_to of w.unit) same) ∙ goes)

  -- ---- edges

  abbrev edge : ℕ → ℕ → Edge
  edge p q = record { key = p; value = q }

  module _ (parts : ℕ) (room : length said ≤ parts) (edges : List Edge) (puts : PutsUnits name said [] edges) where
    edge_refers : (e : Edge) → In e edges → Refers name said e.key e.value
    edge_refers e i = ⊎_elim (λ (a : In e []). absurd a) (λ (b : Refers name said e.key e.value). b) ((puts e).0 i)

    key_low : (e : Edge) → In e edges → e.key < parts
    key_low e i = let o = edge_refers e i in let low = got_below said e.key o.0 o.1 in omega (arith, low, room)

    pub keys_low : All (λ e. e.key < parts) edges
    keys_low = each_pair (λ e. e.key < parts) edges key_low

    pub targets_low : (targets : List (List ℕ)) → targets ≡ grouped parts edges → AreBelow parts targets
    targets_low targets is p q i =
        let o = edge_refers (edge p q) (grouped_edge parts p q edges (subst (λ (w : List (List ℕ)). In q (list_at w p)) is i)) in
        ⊎_elim (λ (l : q < length said). (omega (arith, l, room))) (λ (g : length said ≤ q). absurd (high q o.0 (got_in said p o.0 o.1) g o.2)) (cases_lt q (length said))

    pub targets_refer : (targets : List (List ℕ)) → targets ≡ grouped parts edges → (p q : ℕ) → In q (list_at targets p) ↔ PartRefers r p q
    targets_refer targets is p q = (
      λ i. refers_to q p (edge_refers (edge p q) (grouped_edge parts p q edges (subst (λ (w : List (List ℕ)). In q (list_at w p)) is i))),
      λ x. (
          let o = refers_from q p x in
          let low = got_below said p o.0 o.1 in
          let there = (puts (edge p q)).1 (inr o) in
          subst (λ (w : List (List ℕ)). In q (list_at w p)) (sym is) (edge_grouped parts p q edges (omega (arith, low, room)) there)),
    )

  -- ---- names

  pub names_units : (around : Around ℕ) → ((n : ℕ) → around.place n ≡ n) → (raw : List RawUnit) → MeanUnits around raw said → NamesUnits raw name
  names_units around own raw means i row at =
      let o = row_unit around own raw said means 0 0 i row at in
      let place : place_at raw i ≡ row.entry.at = got_index_or (map (λ (x : EntryRow). x.entry.at) (rows_of raw)) i row.entry.at 0 (got_map (λ (x : EntryRow). x.entry.at) (rows_of raw) i row at) in
      ap (λ (n : ℕ). Some (unit_at 0 said n)) place ∙ ap (λ (n : ℕ). Some n) (at_unit 0 said o.k o.unit row.entry.at once o.got o.there ∙ o.number)

-- ---- of a file

module _ (docs : List (Doc ℕ)) (f : File) (doc : Doc ℕ) (s : IsCommonRead f doc) where
  abbrev all : List RawUnit
  all = raw_units f.units

  pub known : (refs : List ℕ) → refs ≡ f.resolved.refs.items → AreEntries all refs
  known refs is = subst (λ (w : List ℕ). AreEntries all w) (sym is) s.said.refs

  means : MeanUnits (around_given f None) all doc.units
  means = ((units_agree (around_given f None) all).ok doc.units).0 s.said.means

  pub room : (parts : ℕ) → length all ≤ parts → length doc.units ≤ parts
  room parts le = let same = units_same (around_given f None) all doc.units means in omega (arith, same, le)

  abbrev named : ℕ → EntryName
  named = unit_name doc.units

  pub edges_put : (refs : List ℕ) → refs ≡ f.resolved.refs.items → (into : List (Option ℕ)) → ((name : ℕ → EntryName) → NamesUnits all name → into ≡ tops_of_refs name all refs)
      → (given : List (Option ℕ)) → given ≡ into → (starts : List ℕ) → starts ≡ f.resolved.starts.items → (old : List Edge) → old ≡ [] → (new : List Edge)
      → ((around : Around ℕ) (refs : List ℕ) (name : ℕ → EntryName) (said : List (DwUnit ℕ)) → KnowsRefs around all name refs starts given → units_meaning around all ≡ Ok said
      → PutsUnits name said old new)
      → PutsUnits named doc.units [] new
  edges_put refs is into are given same starts begin old none new put =
      let knows : KnowsRefs (around_given f None) all named refs starts given = record {
        parted = subst (λ (w : List ℕ). AreParted (around_given f None) all (entries_in all) refs w) (sym begin)
            (subst (λ (w : List ℕ). AreParted (around_given f None) all (entries_in all) w f.resolved.starts.items) (sym is) s.said.parts);
        entries = known refs is;
        into_are = same ∙ are named (names_units docs doc s.partial s.parts (around_given f None) (λ n. refl) all means);
      } in
      subst (λ (w : List Edge). PutsUnits named doc.units w new) none (put (around_given f None) refs named doc.units knows s.said.means)

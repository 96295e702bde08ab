-- What is marked of one file, from what is known of its spaces and of its operands.
use Rattle.std.proofs.Common.{◌≡◌, ◌↔◌, ◌⊎◌, ℕ, ◌<◌, Bool, true, false, List, [], ◌∷◌, length, map, Option, Some, None, slice_get, refl, sym, ap, subst, ◌∙◌, inl, inr, ⊎_elim, arith}
use Rattle.std.specs.List.{list_any}
use Rattle.std.proofs.lemmas.Option.{get_or_from_slice_get}
use Rattle.dwz_def_tops.specs.Alike.{any_attr}
use Rattle.dwz_def_tops.specs.Spots.{EntryName, UnitOf, same_spot}
use Rattle.dwz_def_tops.proofs.SpotLemmas.{same_spot-same, same_spot-true}
use Rattle.dwz_def_reading.specs.Lists.{In}
use Rattle.dwz_def_reading.specs.Units.{RawUnit, entries_in}
use Rattle.dwz_def_reading.proofs.ListFacts.{got_there, in_cases, in_left, in_right}
use Rattle.dwz_graph.specs.declared.file.File.{File}
use Rattle.dwz_graph.specs.Index.{Index}
use Rattle.dwz_graph.specs.Names.{top_in}
use Rattle.dwz_def_reading.specs.Documents.{Doc, unit_map}
use Rattle.dwz_def_reading.specs.Files.{around_of}
use Rattle.dwz_def_reading.specs.Shared.{OneOf}
use Rattle.dwz_def_images.specs.Plan.{pinned_in, pins}
use Rattle.dwz_graph.specs.ListOperand.{ListOperand}
use Rattle.dwz_graph.specs.Parts.{AreParted}
use Rattle.dwz_graph.specs.Resolved.{AreEntries, place_at}
use Rattle.dwz_move.specs.Known.{KnowsRefs, in_unit, tops_of_refs}
use Rattle.dwz_move.specs.Marked.{Marks, MarksIf, expression_pins, if_asked}
use Rattle.dwz_unit.specs.Rows.{units_of as raw_units}
use Rattle.dwz_graph.specs.Across.{IsFileAmong, file_units, name_at}
use Rattle.dwz_move_files.proofs.FileMarks.{lists_pin}
use Rattle.dwz_move_files.proofs.UnitAttrs.{any_filed, named_attrs, pins_either}
use Rattle.dwz_layout_input.specs.Places.{AreSpaceNumbers, NamesApart, list_spaces, number_at, spot_at}
use Rattle.dwz_layout_input.proofs.PinNames.{number_in, number_tells, numbered, top_number, units_same}

-- marked are those, where it is asked of what has a flag
pub marks_both : (Is Next All : ℕ → Type 0) (old now new : List Bool) → MarksIf Is old now → MarksIf Next now new → ((n : ℕ) → n < length old → All n ↔ (Is n ⊎ Next n)) → MarksIf All old new
marks_both Is Next All old now new a b all = record {
  len = b.len ∙ a.len;
  each = λ n lt. (
      let p = a.each n lt in
      let same = a.len in
      let q = b.each n (omega arith) in
      let r = all n lt in (
        λ h. ⊎_elim (λ x. ⊎_elim (λ y. inl y) (λ y. inr (r.1 (inl y))) (p.0 x)) (λ x. inr (r.1 (inr x))) (q.0 h),
        λ h. ⊎_elim (λ x. q.1 (inl (p.1 (inl x)))) (λ x. ⊎_elim (λ y. q.1 (inl (p.1 (inr y)))) (λ y. q.1 (inr y)) (r.0 x)) h,
      ));
}

same_option : (a b : Option ℕ) → ((t : ℕ) → (a ≡ Some t) ↔ (b ≡ Some t)) → a ≡ b
same_option None None h = refl
same_option None (Some n) h = absurd (let e : None ≡ Some n = (h n).1 refl in cc)
same_option (Some m) b h = sym ((h m).0 refl)

-- ---- operands of location lists

asked_in : (t : ℕ) (u : Bool) (o : Option ℕ) → In (Some t) (if_asked u o) ↔ ((u ≡ true) × (o ≡ Some t))
asked_in t true o = (λ h. ⊎_elim (λ e. (refl, e)) (λ no. absurd no) h, λ h. inl h.1)
asked_in t false o = (λ h. absurd h, λ h. absurd (let no = h.0 in cc))

pub lists_in : (numbers : List (Option ℕ)) (t : ℕ) (rows : List ListOperand) → In (Some t) (list_spaces numbers rows) ↔ OneOf rows (λ o. (o.uleb ≡ true) × (number_at numbers o.entry ≡ Some t))
lists_in numbers t [] = (λ h. absurd h, λ h. absurd h.1)
lists_in numbers t (o ∷ rows) =
    let own = asked_in t o.uleb (number_at numbers o.entry) in
    let more = lists_in numbers t rows in
    let first = if_asked o.uleb (number_at numbers o.entry) in
    let rest = list_spaces numbers rows in (
      λ h. ⊎_elim (λ a. (o, inl refl, own.0 a)) (λ b. (let r = more.0 b in (r.0, inr r.1, r.2))) (in_cases (Some t) first rest h),
      λ h. ⊎_elim
          (λ e. in_left (Some t) first rest (own.1 (subst (λ (w : ListOperand). (w.uleb ≡ true) × (number_at numbers w.entry ≡ Some t)) (sym e) h.2)))
          (λ later. in_right (Some t) first rest (more.1 (h.0, later, h.2)))
          h.1,
    )

-- ---- of a file

module _ (contents : List (List ℕ)) (file : ℕ) (bytes : List ℕ) (f : File) (x : Index) (is : IsFileAmong contents file bytes f x)
    (spots : List EntryName) (apart : NamesApart spots x (raw_units f.units) (name_at x.starts is.kept.read.doc))
    (numbers : List (Option ℕ)) (long : length numbers ≡ entries_in (raw_units f.units)) (are : AreSpaceNumbers x.starts.space x.spaces numbers) where
  abbrev raw : List RawUnit
  raw = raw_units f.units

  abbrev doc : Doc ℕ
  doc = is.kept.read.doc

  abbrev name : ℕ → EntryName
  name = name_at x.starts doc

  -- the number of an entry tells which space it is
  entry_tells : (entry t : ℕ) → entry < entries_in raw → (number_at numbers entry ≡ Some t) ↔ (slice_get spots t ≡ Some (name (place_at raw entry)))
  entry_tells entry t lt = (
    λ h. (let r = are.each entry t h in ap (slice_get spots) r.number ∙ apart.own r.j r.x r.there ∙ ap (λ (n : ℕ). Some (name (place_at raw n))) r.is_entry),
    λ h. (
        let r = apart.found t entry lt h in
        let low : r.x.entry < length numbers = (let e = r.is_entry in omega arith) in
        let some = are.all r.j r.x r.there low in
        let q = are.each r.x.entry some.0 some.1 in
        let there : slice_get spots some.0 ≡ Some (name (place_at raw entry)) = ap (slice_get spots) q.number ∙ apart.own q.j q.x q.there
        ∙ ap (λ (n : ℕ). Some (name (place_at raw n))) (q.is_entry ∙ r.is_entry) in
        let same : some.0 ≡ t = apart.one some.0 t (name (place_at raw entry)) there h in
        ap (number_at numbers) (sym r.is_entry) ∙ some.1 ∙ ap Some same),
  )

  number_same : (entry : ℕ) → entry < entries_in raw → number_at numbers entry ≡ top_in (numbered spots name (place_at raw entry))
  number_same entry lt =
      same_option (number_at numbers entry) (number_in spots 0 (name (place_at raw entry)))
      (λ t. (let a = entry_tells entry t lt in let b = number_tells spots apart.one (name (place_at raw entry)) t in (λ h. b.1 (a.0 h), λ h. a.1 (b.0 h))))
      ∙ sym (top_number (number_in spots 0 (name (place_at raw entry))))

  pub into_are : (refs : List ℕ) → AreEntries raw refs → map (number_at numbers) refs ≡ tops_of_refs (numbered spots name) raw refs
  into_are [] h = refl
  into_are (r ∷ refs) h = (λ i. number_same r h.0 i ∷ into_are refs h.1 i)

  pub knows : (refs starts : List ℕ) (into : List (Option ℕ)) → refs ≡ f.resolved.refs.items → starts ≡ f.resolved.starts.items → into ≡ map (number_at numbers) refs
      → KnowsRefs (around_of bytes raw) raw (numbered spots name) f.resolved.refs.items starts into
  knows refs starts into r s i = record {
    parted = subst (λ (w : List ℕ). AreParted (around_of bytes raw) raw (entries_in raw) f.resolved.refs.items w) (sym s) is.kept.read.parts;
    entries = is.kept.read.within;
    into_are = i ∙ ap (map (number_at numbers)) r ∙ into_are f.resolved.refs.items is.kept.read.within;
  }

  spot_tells : (t : ℕ) (s : EntryName) → slice_get spots t ≡ Some s → (q : EntryName) → (slice_get spots t ≡ Some q) ↔ (same_spot s q ≡ true)
  spot_tells t s there q = (
    λ h. (let both : Some s ≡ Some q = sym there ∙ h in let same : s ≡ q = cc in subst (λ (w : EntryName). same_spot s w ≡ true) same (same_spot-same s)),
    λ h. there ∙ ap (λ w. Some w) (same_spot-true s q h),
  )

  -- which spaces are pinned
  pins_space : (t : ℕ) (s : EntryName) → slice_get spots t ≡ Some s → (list_any (pinned_in (same_spot s)) (file_units x.starts file doc) ≡ true)
      ↔ ((list_any (in_unit (any_attr (expression_pins t))) (map (unit_map (numbered spots name)) doc.units) ≡ true) ⊎ In (Some t) (list_spaces numbers f.resolved.operands.items))
  pins_space t s there =
      let rows = f.resolved.operands.items in
      let whole = any_filed (pins (same_spot s)) name file doc.units in
      let either = pins_either (same_spot s) (named_attrs name doc.units) in
      let exprs = units_same spots apart.one name t s there doc.units in
      let lists = lists_pin contents file bytes f x is (same_spot s) in
      let rows_are = lists_in numbers t rows in
      let each = λ (o : ListOperand) (inside : In o rows). tells t s there o inside in (
        λ h. ⊎_elim (λ a. inl (exprs ∙ a)) (λ b. (let r = lists.0 b in inr (rows_are.1 (r.0, r.1, (r.2.0, (each r.0 r.1).1 r.2.1))))) (either.0 (sym whole ∙ h)),
        λ h. whole ∙ either.1 (⊎_elim (λ a. inl (sym exprs ∙ a)) (λ b. (let r = rows_are.0 b in inr (lists.1 (r.0, r.1, (r.2.0, (each r.0 r.1).0 r.2.1))))) h),
      )
    where
      tells : (t : ℕ) (s : EntryName) → slice_get spots t ≡ Some s → (o : ListOperand) → In o f.resolved.operands.items
          → (number_at numbers o.entry ≡ Some t) ↔ (same_spot s (name (place_at raw o.entry)) ≡ true)
      tells t s there o inside =
          let low = (is.kept.read.of_file o inside).entry in
          let a = entry_tells o.entry t low in
          let c = spot_tells t s there (name (place_at raw o.entry)) in
          (λ h. c.0 (a.0 h), λ h. a.1 (c.1 h))

  pub file_pins : (rows : List ListOperand) → rows ≡ f.resolved.operands.items → (old mid new : List Bool) → length old ≡ length spots
      → MarksIf (λ t. list_any (in_unit (any_attr (expression_pins t))) (map (unit_map (numbered spots name)) doc.units) ≡ true) old mid → Marks (list_spaces numbers rows) mid new
      → MarksIf (λ t. list_any (pinned_in (same_spot (spot_at spots t))) (file_units x.starts file doc) ≡ true) old new
  file_pins rows e old mid new many a b =
      marks_both (λ t. list_any (in_unit (any_attr (expression_pins t))) (map (unit_map (numbered spots name)) doc.units) ≡ true) (λ t. In (Some t) (list_spaces numbers f.resolved.operands.items))
      (λ t. list_any (pinned_in (same_spot (spot_at spots t))) (file_units x.starts file doc) ≡ true) old mid new a (subst (λ (w : List ListOperand). Marks (list_spaces numbers w) mid new) e b)
      (λ t lt. (let g = got_there spots t (omega arith) in pins_space t (spot_at spots t) (g.1 ∙ ap (λ w. Some w) (sym (get_or_from_slice_get spots t g.0 (UnitOf 0) g.1)))))

-- What was told of all sources are the operands of the lists that values of the new file name.
use Rattle.std.proofs.Common.{◌≡◌, ℕ, suc, zero, ◌<◌, ◌≤◌, List, [], ◌∷◌, length, map, Option, Some, None, slice_get, refl, sym, ap, subst, ◌∙◌, arith, inl, inr}
use Rattle.std.specs.List.{flat_map}
use Rattle.std.proofs.lemmas.Option.{same_Some}
use Rattle.dwz_model.specs.Lists.{In}
use Rattle.dwz_model.proofs.ListFacts.{got_below, got_there, in_cases, in_left, in_map, in_right}
use Rattle.dwz_model.proofs.Members.{in_map_from}
use Rattle.dwz_def_encoding.specs.Meant.{led_to}
use Rattle.dwz_def_reading.specs.declared.exprs.Operand.{Operand}
use Rattle.dwz_def_reading.specs.Entries.{RawAttr}
use Rattle.dwz_def_reading.specs.Files.{sources_of}
use Rattle.dwz_def_reading.specs.Meanings.{MeaningContext, all_places, scope_of, without_siblings}
use Rattle.dwz_def_reading.specs.Places.{Place, at_file}
use Rattle.dwz_def_reading.specs.Shared.{ListOperand, NamedList, OneOf, operands_in_lists}
use Rattle.dwz_def_reading.specs.Units.{RawUnit, entries_in}
use Rattle.dwz_def_cross.specs.Tops.{WithCommon}
use Rattle.dwz_def_expand.specs.OneFile.{FileRead, OneFile, StoredAttr, around, same_place, stored_attr, with_scope}
use Rattle.dwz_def_expand.specs.Output.{Spoken, in_list, in_lists, sites_of_file}
use Rattle.dwz_def_expand.specs.Refusals.{Site, sites}
use Rattle.dwz_expand_sources.specs.Imports.{same}
use Rattle.dwz_unit.proofs.RowsFound.{rows-length}
use Rattle.dwz_unit.specs.Rows.{EntryRow, rows_of}
use Rattle.dwz_expand_layout.specs.Laid.{Made}
use Rattle.dwz_expand_passes.specs.Files.{raw_in}
use Rattle.dwz_expand_sections.specs.Narrow.{operand_after}
use Rattle.dwz_expand.proofs.SameScope.{list_same}
use Rattle.dwz_expand.proofs.FaultMaps.{site_map, sites_mapped}
use Rattle.dwz_expand_passes.specs.Noted.{plan_sources}
use Rattle.dwz_expand_passes.specs.declared.new_file.NewFile.{NewFile}
use Rattle.dwz_expand.proofs.PlanSites.{planned_line, planned_site, site_planned}
use Rattle.dwz_expand.proofs.StoredEntries.{own_entry}
use Rattle.dwz_expand.proofs.ValuesIn.{from_site, in_site, spoken_of}
use Rattle.dwz_expand.specs.Listed.{AreTold}
use Rattle.dwz_expand.proofs.OwnRows.{own_low, own_row}
use Rattle.dwz_expand.specs.Gathered.{list_operands, own_around, own_scope, spoken_at, told_at, told_in}
use Rattle.dwz_expand.specs.Walked.{HasLists, told_by, told_of, told_row, told_unit}

-- ---- lists

in_flat : {X Y : Type 0} (f : X → List Y) (xs : List X) (x : X) (y : Y) → In x xs → In y (f x) → In y (flat_map f xs)
in_flat f [] x y there is = absurd there
in_flat {X} {Y} f (z ∷ xs) x y (inl same) is = in_left y (f z) (flat_map f xs) (subst (λ (v : X). In y (f v)) (sym same) is)
in_flat f (z ∷ xs) x y (inr later) is = in_right y (f z) (flat_map f xs) (in_flat f xs x y later is)

flat_from : {X Y : Type 0} (f : X → List Y) (xs : List X) (y : Y) → In y (flat_map f xs) → (x : X) × In x xs × In y (f x)
flat_from f [] y there = absurd there
flat_from f (z ∷ xs) y there = elim (in_cases y (f z) (flat_map f xs) there) [
  | inl here ↦ (z, inl refl, here)
  | inr later ↦ (let o = flat_from f xs y later in (o.0, inr o.1, o.2))
]

-- ---- of one entry

told_from : (f : OneFile) (n : ℕ) (s : MeaningContext ℕ) (attrs : List RawAttr) (t : Operand) → In t (told_in f n s attrs)
    → (index : ℕ) × (a : RawAttr) × (o : Operand) × (slice_get attrs index ≡ Some a) × In o (list_operands s a) × (operand_after f (spoken_at n s.unit o) ≡ t)
unfolding told_in
told_from f n s [] t there = absurd there
told_from f n s (a ∷ attrs) t there = elim (in_cases t (told_at f n s (list_operands s a)) (told_in f n s attrs) there) [
  | inl here ↦ (let m = in_map_from (λ (o : Operand). operand_after f (spoken_at n s.unit o)) t (list_operands s a) here in (0, a, m.source, refl, m.there, m.is))
  | inr later ↦ (let r = told_from f n s attrs t later in (suc r.0, r.1, r.2, r.3, r.4, r.5))
]

told_into : (f : OneFile) (n : ℕ) (s : MeaningContext ℕ) (attrs : List RawAttr) (index : ℕ) (a : RawAttr) (o : Operand) → slice_get attrs index ≡ Some a → In o (list_operands s a)
    → In (operand_after f (spoken_at n s.unit o)) (told_in f n s attrs)
unfolding told_in
told_into f n s [] index a o got there = absurd (let z : None ≡ Some a = got in cc)
told_into f n s (b ∷ attrs) zero a o got there =
    let same : b ≡ a = same_Some b a got in
    in_left (operand_after f (spoken_at n s.unit o)) (told_at f n s (list_operands s b)) (told_in f n s attrs)
    (in_map (λ (q : Operand). operand_after f (spoken_at n s.unit q)) o (list_operands s b) (subst (λ (x : RawAttr). In o (list_operands s x)) (sym same) there))
told_into f n s (b ∷ attrs) (suc index) a o got there =
    in_right (operand_after f (spoken_at n s.unit o)) (told_at f n s (list_operands s b)) (told_in f n s attrs) (told_into f n s attrs index a o got there)

pub row_low : (raw : List RawUnit) (i : ℕ) (row : EntryRow) → slice_get (rows_of raw) i ≡ Some row → i < entries_in raw
row_low raw i row found = omega (arith, got_below (rows_of raw) i row found, rows-length raw)

past_rows : (rows : List EntryRow) (i : ℕ) → length rows ≤ i → slice_get rows i ≡ None
past_rows [] i le = refl
past_rows (r ∷ rows) zero le = absurd (omega (arith, le))
past_rows (r ∷ rows) (suc i) le = past_rows rows i (omega (arith, le))

pub no_row : (f : OneFile) (x : NewFile) (n i : ℕ) → entries_in (raw_in x.own) ≤ i → told_by f x (n, i) ≡ []
no_row f x n i le = ap (λ (r : Option EntryRow). told_row f x n r) (past_rows (rows_of (raw_in x.own)) i (omega (arith, le, rows-length (raw_in x.own))))

-- what is told is of a row and its unit
record IsRowOf (x : NewFile) (n i : ℕ) (f : OneFile) (t : Operand) : Type 0 where
  row : EntryRow
  found : slice_get (rows_of (raw_in x.own)) i ≡ Some row
  u : RawUnit
  is_unit : slice_get (raw_in x.own) row.unit ≡ Some u
  there : In t (told_in f n (own_scope x u) (without_siblings row.entry.attrs))

row_told : (f : OneFile) (x : NewFile) (n i : ℕ) (t : Operand) → In t (told_by f x (n, i)) → IsRowOf x n i f t
row_told f x n i t there = by (slice_get (rows_of (raw_in x.own)) i) refl there where
  in_unit : (row : EntryRow) → slice_get (rows_of (raw_in x.own)) i ≡ Some row → (u : Option RawUnit) → slice_get (raw_in x.own) row.unit ≡ u → In t (told_unit f x n row u) → IsRowOf x n i f t
  in_unit row found None none h = absurd h
  in_unit row found (Some u) is h = record { row = row; found = found; u = u; is_unit = is; there = h }

  by : (r : Option EntryRow) → slice_get (rows_of (raw_in x.own)) i ≡ r → In t (told_row f x n r) → IsRowOf x n i f t
  by None none h = absurd h
  by (Some row) found h = in_unit row found (slice_get (raw_in x.own) row.unit) refl h

pub row_tells : (f : OneFile) (x : NewFile) (n i : ℕ) (row : EntryRow) (u : RawUnit) → slice_get (rows_of (raw_in x.own)) i ≡ Some row → slice_get (raw_in x.own) row.unit ≡ Some u
    → told_by f x (n, i) ≡ told_in f n (own_scope x u) (without_siblings row.entry.attrs)
row_tells f x n i row u found is = ap (λ (r : Option EntryRow). told_row f x n r) found ∙ ap (λ (o : Option RawUnit). told_unit f x n row o) is

-- what is found with a scope
with_found : (s : MeaningContext Place) (o : Option RawAttr) (v : StoredAttr) → with_scope s o ≡ Some v → (a : RawAttr) × (o ≡ Some a) × (record { scope = s; attr = a } ≡ v)
with_found s None v is = absurd (let z : None ≡ Some v = is in cc)
with_found s (Some a) v is = (let made : StoredAttr = record { scope = s; attr = a } in (a, refl, same_Some made v is))

own_sources : (file : FileRead) (common : Option FileRead) → (around (record { file = file; common = common }) 0).sources ≡ sources_of file.bytes
own_sources file None = refl
own_sources file (Some c) = refl

own_all : (file : FileRead) (common : Option FileRead) → (around (record { file = file; common = common }) 0).all ≡ all_places file.raw
own_all file None = refl
own_all file (Some c) = refl

module _ (f : OneFile) (x : NewFile) (made : Made) (h : HasLists f x made) where
  -- the value has the same list for the file
  same_list : (u : RawUnit) (a : RawAttr) → in_list (record { scope = scope_of (around f 0) u; attr = a }) ≡ list_operands (own_scope x u) a
  same_list u a =
      ap (λ (ls : List NamedList). map (λ (o : ListOperand). o.operand) (operands_in_lists ls))
      (list_same (own_around x) (around f 0) (own_sources f.file f.common ∙ sym h.sources) (own_all f.file f.common ∙ ap (λ (us : List RawUnit). all_places us) h.known.own_raw) u a)

  sites_are : sites_of_file f ≡ map (site_map h.known.place same same_place h.known.stand.alike) (sites same h.known.w)
  sites_are =
      ap (λ (w : WithCommon Place). sites same_place w) h.known.stand.said ∙ sites_mapped h.known.place same same_place h.known.stand.alike h.known.w

  abbrev Plan : List (ℕ × ℕ)
  Plan = plan_sources x.sources.now.ranges 0 x.sources.now.units

  -- each that is told is of a value
  to_list : (n i : ℕ) → In (n, i) Plan → (t : Operand) → In t (told_by f x (n, i)) → OneOf (in_lists f) (λ o. operand_after f o ≡ t)
  to_list n i planned t there =
      let r = row_told f x n i t there in
      let attrs = without_siblings r.row.entry.attrs in
      let p = told_from f n (own_scope x r.u) attrs t r.there in
      let index = p.0 in
      let a = p.1 in
      let line = planned_line h.known.w x.sources.now h.known.says.are h.known.says.apart n i planned in
      let low : i < entries_in (raw_in x.own) = row_low (raw_in x.own) i r.row r.found in
      let e = own_entry f x h.known i line.0 line.1 r.row r.u low r.found r.is_unit in
      let below : index < length line.0.node.attrs = omega (arith, got_below attrs index a p.3, e.many) in
      let b = got_there line.0.node.attrs index below in
      let value : Site ℕ = record { unit = n; source = line.0.node.at; index = index; attr = b.0 } in
      let site = site_map h.known.place same same_place h.known.stand.alike value in
      let in_plan : In value (sites same h.known.w) = planned_site h.known.w x.sources.now h.known.says.are h.known.says.apart n i index line.0 b.0 planned line.1 b.1 in
      let in_file : In site (sites_of_file f) =
      subst (λ (ss : List (Site Place)). In site ss) (sym sites_are) (in_map (site_map h.known.place same same_place h.known.stand.alike) value (sites same h.known.w) in_plan) in
      let file : site.source.file ≡ 0 = ap (λ (q : Place). q.file) e.at in
      let big = scope_of (around f 0) r.u in
      let v : StoredAttr = record { scope = big; attr = a } in
      let stored : stored_attr f site.source site.index ≡ Some v = e.stored index ∙ ap (with_scope big) p.3 in
      let own : In p.2 (in_list v) = subst (λ (os : List Operand). In p.2 os) (sym (same_list r.u a)) p.4 in
      let o = spoken_of site v p.2 in
      let is : o ≡ spoken_at n r.u.at p.2 = λ j. record { unit = n; operand = p.2; target = at_file (file j) (led_to r.u.at p.2) } in
      (o, in_site f in_list 0 (sites_of_file f) site v p.2 in_file file stored own, ap (operand_after f) is ∙ p.5)

  -- and each of a value is told
  from_list : (o : Spoken) → In o (in_lists f) → In (operand_after f o) (told_of f x Plan)
  from_list o there =
      let s = from_site f in_list 0 (sites_of_file f) o there in
      let m = in_map_from (site_map h.known.place same same_place h.known.stand.alike) s.site (sites same h.known.w)
      (subst (λ (ss : List (Site Place)). In s.site ss) sites_are s.there) in
      let p = site_planned h.known.w x.sources.now h.known.says.are h.known.says.apart m.source m.there in
      let n = m.source.unit in
      let unit : s.site.unit ≡ n = sym (ap (λ (t : Site Place). t.unit) m.is) in
      let source : s.site.source ≡ h.known.place p.line_of.node.at = sym (ap (λ (t : Site Place). t.source) m.is) ∙ ap h.known.place p.at in
      let low : p.source < entries_in (raw_in x.own) = own_low f x h.known p.source p.line_of p.found (ap (λ (q : Place). q.file) (sym source) ∙ s.in_file) in
      let r = own_row f x h.known p.source p.line_of p.found low in
      let e = own_entry f x h.known p.source p.line_of p.found r.row r.u low r.found r.is_unit in
      let attrs = without_siblings r.row.entry.attrs in
      let big = scope_of (around f 0) r.u in
      let stored : with_scope big (slice_get attrs s.site.index) ≡ Some s.value =
      sym (ap (λ (q : Place). stored_attr f q s.site.index) source ∙ e.stored s.site.index) ∙ s.stored in
      let w = with_found big (slice_get attrs s.site.index) s.value stored in
      let own : In s.operand (in_list (record { scope = big; attr = w.0 })) = subst (λ (v : StoredAttr). In s.operand (in_list v)) (sym w.2) s.own in
      let mine : In s.operand (list_operands (own_scope x r.u) w.0) = subst (λ (os : List Operand). In s.operand os) (same_list r.u w.0) own in
      let one : In (operand_after f (spoken_at n r.u.at s.operand)) (told_by f x (n, p.source)) =
      subst (λ (os : List Operand). In (operand_after f (spoken_at n r.u.at s.operand)) os) (sym (row_tells f x n p.source r.row r.u r.found r.is_unit))
      (told_into f n (own_scope x r.u) attrs s.site.index w.0 s.operand w.1 mine) in
      let is : spoken_at n r.u.at s.operand ≡ o =
      (λ j. record { unit = sym unit j; operand = s.operand; target = at_file (sym s.in_file j) (led_to (w.2 j).scope.unit s.operand) }) ∙ s.is in
      subst (λ (q : Spoken). In (operand_after f q) (told_of f x Plan)) is (in_flat (told_by f x) Plan (n, p.source) (operand_after f (spoken_at n r.u.at s.operand)) p.planned one)

  pub all_told : (told : List Operand) → told ≡ told_of f x Plan → AreTold f told
  all_told told is = record {
    from = λ t there.
        let w = flat_from (told_by f x) Plan t (subst (λ (os : List Operand). In t os) is there) in
        to_list w.0.0 w.0.1 w.1 t w.2;
    all = λ o there. subst (λ (os : List Operand). In (operand_after f o) os) (sym is) (from_list o there);
  }

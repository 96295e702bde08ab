-- The rows of one of two files, from what its columns show.
use Rattle.std.proofs.Common.{◌≡◌, ℕ, suc, ◌+◌, ◌-◌, Bool, true, false, cond, List, [], ◌∷◌, ◌++◌, length, map, Option, Some, None, refl, ap, subst, ◌∙◌, arith}
use Rattle.std.specs.Prelude.{slice_index, slice_index_or, if◌then◌else◌}
use Rattle.std.specs.List.{filter, flat_map, range_with_len}
use Rattle.std.proofs.lemmas.List.{length-append, map-append}
use Rattle.dwz_def_reading.specs.Documents.{Entries}
use Rattle.dwz_def_reading.specs.Trees.{End, Entry}
use Rattle.dwz_def_tops.specs.Spaces.{space_text}
use Rattle.dwz_def_cross.specs.CrossSame.{EachTwo}
use Rattle.dwz_def_cross.specs.Tops.{CrossTop}
use Rattle.dwz_def_check.specs.CrossLists.{NumberedUnit, classed_parts, classed_spaces, classed_tops}
use Rattle.dwz_def_check.specs.CrossNames.{cross_tops_in, unit_tops}
use Rattle.dwz_def_check.specs.CrossNodes.{spaces_in}
use Rattle.dwz_def_check.specs.CrossRows.{Classed}
use Rattle.dwz_check_rows.specs.declared.columns.Columns.{Columns}
use Rattle.dwz_check_rows.specs.UnitRows.{classed, numbers_between, plain_tops, unit_at}
use Rattle.dwz_check_sides.specs.Units.{tops_end}
use Rattle.dwz_check_columns.specs.Drawn.{lists_below}
use Rattle.dwz_check_columns.proofs.LoneNames.{below_lists_long}
use Rattle.dwz_check_columns.proofs.NumberedUnits.{names_of}
use Rattle.dwz_check_columns.proofs.TwoLists.{Gives, gives_append, gives_as, gives_left, gives_range, gives_right}

-- the name list of a node, where that function says what numbers of name lists stand for
abbrev pub name_at : Columns → (ℕ → List (List ℕ)) → ℕ → List (List ℕ)
name_at x lists n = lists (slice_index x.names n)

-- whether a node shows a top that imports nothing
abbrev pub keeps : Columns → ℕ → Bool
keeps x n = slice_index_or x.plain n false

-- the nodes of the unit with a number are those of this unit, and its tops have their name lists
pub record IsUnitShown (x : Columns) (lists : ℕ → List (List ℕ)) (n : ℕ) (y : NumberedUnit ℕ) : Type 0 where
  pub top : (unit_at x n).top ≡ y.top
  pub end : (unit_at x n).tops_end ≡ tops_end y
  pub names : Gives (name_at x lists) y.top (map names_of (unit_tops y.unit.kind y.unit))

module _ (x : Columns) (lists : ℕ → List (List ℕ)) (classes : List ℕ) where
  abbrev class_of : ℕ → Classed
  class_of n = classed lists classes x n

  -- ---- spaces

  abbrev classed_by : List (List ℕ) → ℕ → Entries ℕ → Entries ℕ → Option (List ℕ) → List Classed
  classed_by names n f g o = elim o as (λ _. List Classed) [
    | None ↦ classed_spaces classes names n g
    | Some text ↦ (names ++ text ∷ [], slice_index classes n)
        ∷ classed_spaces classes (names ++ text ∷ []) (suc n) f ++ classed_spaces classes names (suc n + length (spaces_in f)) g
  ]

  abbrev lists_by : List (List ℕ) → Entries ℕ → Entries ℕ → Option (List ℕ) → List (List (List ℕ))
  lists_by names f g o = elim o as (λ _. List (List (List ℕ))) [
    | None ↦ lists_below names g
    | Some text ↦ (names ++ text ∷ []) ∷ lists_below (names ++ text ∷ []) f ++ lists_below names g
  ]

  -- as many as there are spaces, with these classes
  abbrev AreClassed : List (List ℕ) → ℕ → Entries ℕ → Type 0
  AreClassed names n f = (length (classed_spaces classes names n f) ≡ length (lists_below names f)) × Gives class_of n (classed_spaces classes names n f)

  classed_from : (names : List (List ℕ)) (n : ℕ) (f g : Entries ℕ) → ((inner : List (List ℕ)) (m : ℕ) → Gives (name_at x lists) m (lists_below inner f) → AreClassed inner m f)
      → ((m : ℕ) → Gives (name_at x lists) m (lists_below names g) → AreClassed names m g) → (o : Option (List ℕ)) → Gives (name_at x lists) n (lists_by names f g o)
      → (length (classed_by names n f g o) ≡ length (lists_by names f g o)) × Gives class_of n (classed_by names n f g o)
  classed_from names n f g inside behind None h = behind n h
  classed_from names n f g inside behind (Some text) h =
      let inner : List (List ℕ) = names ++ text ∷ [] in
      let long = below_lists_long inner f in
      let a = inside inner (suc n) (gives_left (name_at x lists) (suc n) (lists_below inner f) (lists_below names g) h.1) in
      let b = behind (suc n + length (spaces_in f))
      (gives_as (name_at x lists) (suc n + length (lists_below inner f)) (suc n + length (spaces_in f)) (lists_below names g) (omega (arith, long))
      (gives_right (name_at x lists) (suc n) (lists_below inner f) (lists_below names g) h.1)) in
      let first = classed_spaces classes inner (suc n) f in
      let rest = classed_spaces classes names (suc n + length (spaces_in f)) g in
      let first_long = a.0 in
      let rest_long = b.0 in
      let name = h.0 in (
        omega (arith, length-append first rest, length-append (lists_below inner f) (lists_below names g), first_long, rest_long),
        ((λ i. (name i, slice_index classes n)), gives_append class_of (suc n) first rest a.1 (gives_as class_of (suc n + length (spaces_in f)) (suc n + length first) rest (omega (arith, long, first_long)) b.1)),
      )

  spaces_classed : (names : List (List ℕ)) (n : ℕ) (f : Entries ℕ) → Gives (name_at x lists) n (lists_below names f) → AreClassed names n f
  unfolding classed_spaces lists_below
  spaces_classed names n End h = (refl, tt)
  spaces_classed names n (Entry e f g) h =
      classed_from names n f g (λ inner m. spaces_classed inner m f) (λ m. spaces_classed names m g) (space_text e) h

  -- spaces by their numbers, from that one on
  pub spaces_are : (names : List (List ℕ)) (n end : ℕ) (f : Entries ℕ) → Gives (name_at x lists) n (lists_below names f) → end ≡ n + length (spaces_in f)
      → map class_of (numbers_between n end) ≡ classed_spaces classes names n f
  spaces_are names n end f h e =
      let o = spaces_classed names n f h in
      let one = o.0 in
      let two = below_lists_long names f in
      let many : end - n ≡ length (classed_spaces classes names n f) = omega (arith, e, one, two) in
      ap (λ (k : ℕ). map class_of (range_with_len n k)) many ∙ gives_range class_of n (classed_spaces classes names n f) o.1

  -- ---- tops

  tops_classed : (k : ℕ) (tops : List (CrossTop ℕ)) → Gives (name_at x lists) k (map names_of tops) → map class_of (filter (keeps x) (range_with_len k (length tops))) ≡ classed_tops classes (keeps x) k tops
  unfolding classed_tops
  tops_classed k [] h = refl
  tops_classed k (t ∷ tops) h =
      let one : k + 1 ≡ suc k = omega arith in
      by (keeps x k) (ap (λ (n : ℕ). map class_of (filter (keeps x) (range_with_len n (length tops)))) one ∙ tops_classed (suc k) tops h.1) h.0
    where
      by : (b : Bool) → map class_of (filter (keeps x) (range_with_len (k + 1) (length tops))) ≡ classed_tops classes (keeps x) (suc k) tops → name_at x lists k ≡ t.names
          → map class_of (cond b (k ∷ filter (keeps x) (range_with_len (k + 1) (length tops))) (filter (keeps x) (range_with_len (k + 1) (length tops))))
          ≡ (if b then (t.names, slice_index classes k) ∷ [] else []) ++ classed_tops classes (keeps x) (suc k) tops
      by true more name = λ i. (name i, slice_index classes k) ∷ more i
      by false more name = more

  -- so those of its tops that import nothing have these classes, where it is no type unit
  pub unit_tops_are : (n : ℕ) (y : NumberedUnit ℕ) → IsUnitShown x lists n y → unit_tops y.unit.kind y.unit ≡ cross_tops_in [] y.unit.below
      → map class_of (plain_tops x (unit_at x n)) ≡ classed_tops classes (keeps x) y.top (cross_tops_in [] y.unit.below)
  unit_tops_are n y h inner =
      let top = h.top in
      let end = h.end in
      let same = ap (λ (ts : List (CrossTop ℕ)). length ts) inner in
      let long : (unit_at x n).tops_end - (unit_at x n).top ≡ length (cross_tops_in [] y.unit.below) = omega (arith, top, end, same) in
      (λ i. map class_of (filter (keeps x) (range_with_len (top i) (long i))))
      ∙ tops_classed y.top (cross_tops_in [] y.unit.below) (subst (λ (ts : List (CrossTop ℕ)). Gives (name_at x lists) y.top (map names_of ts)) inner h.names)

  -- and those of several units
  pub parts_tops_are : (numbers : List ℕ) (parts : List (NumberedUnit ℕ)) → EachTwo (λ n y. map class_of (plain_tops x (unit_at x n)) ≡ classed_tops classes (keeps x) y.top (cross_tops_in [] y.unit.below)) numbers parts
      → map class_of (flat_map (λ n. plain_tops x (unit_at x n)) numbers) ≡ classed_parts classes (keeps x) parts
  parts_tops_are [] [] h = refl
  parts_tops_are (n ∷ numbers) (y ∷ parts) h =
      let first = h.0 in
      let rest = parts_tops_are numbers parts h.1 in
      map-append class_of (plain_tops x (unit_at x n)) (flat_map (λ m. plain_tops x (unit_at x m)) numbers) ∙ (λ i. first i ++ rest i)
  parts_tops_are [] (y ∷ parts) h = absurd h
  parts_tops_are (n ∷ numbers) [] h = absurd h

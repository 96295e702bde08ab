-- Inner: rows of units as lists of classes, by the numbers of tops, roots and spaces.
use Rattle.std.specs.Prelude.{◌≡◌, ◌↔◌, ℕ, suc, ◌+◌, Bool, true, List, [], ◌∷◌, ◌++◌, length, slice_index, Some, None, if◌then◌else◌}
use Rattle.std.specs.List.{flat_map}
use Rattle.dwz_def_reading.specs.Documents.{Compile, DwUnit, Entries, Kind, Node, OfType}
use Rattle.dwz_def_reading.specs.Lists.{In}
use Rattle.dwz_def_reading.specs.Trees.{End, Entry}
use Rattle.dwz_def_tops.specs.Seen.{IsChild, IsImport}
use Rattle.dwz_def_tops.specs.Spaces.{space_text}
use Rattle.dwz_def_cross.specs.Tops.{CrossTop, StandsAlong, units_with_common}
use Rattle.dwz_def_check.specs.CrossNames.{IsNthTop, Side, cross_tops_in, unit_tops}
use Rattle.dwz_def_check.specs.CrossNodes.{lone_of, spaces_in}
use Rattle.dwz_def_check.specs.CrossRows.{Classed, CompileRow, SameMembers, TypeRow, UnitRow}

-- ---- units with numbers

-- a unit, with the number of the first of its tops, and that of its root, behind which come its spaces
pub record NumberedUnit (P : Type 0) : Type 0 where
  pub unit : DwUnit P
  pub top : ℕ
  pub lone : ℕ

unfoldable pub numbered_units : {P : Type 0} → ℕ → ℕ → List (DwUnit P) → List (NumberedUnit P)
numbered_units top lone [] = []
numbered_units top lone (u ∷ units) =
    record { unit = u; top = top; lone = lone }
    ∷ numbered_units (top + length (unit_tops u.kind u)) (lone + length (lone_of u.kind u)) units

abbrev pub own_units : {P : Type 0} → Side P → List (NumberedUnit P)
own_units s = numbered_units s.own s.lone s.files.own

-- common units, all of which are partial, have no roots and spaces with numbers
abbrev pub common_numbered : {P : Type 0} → Side P → List (NumberedUnit P)
common_numbered s = numbered_units s.common 0 s.files.common

-- ---- classes

-- of the spaces among these entries, which stand in spaces with these names, where the first space has that number
unfoldable pub classed_spaces : {P : Type 0} → List ℕ → List (List ℕ) → ℕ → Entries P → List Classed
classed_spaces classes names n End = []
classed_spaces classes names n (Entry e children next) = elim (space_text e) as (λ _. List Classed) [
  | None ↦ classed_spaces classes names n next
  | Some text ↦ (names ++ text ∷ [], slice_index classes n)
      ∷ classed_spaces classes (names ++ text ∷ []) (suc n) children ++ classed_spaces classes names (suc n + length (spaces_in children)) next
]

-- of those of these tops whose numbers pass the test, where the first has that number
unfoldable pub classed_tops : {P : Type 0} → List ℕ → (ℕ → Bool) → ℕ → List (CrossTop P) → List Classed
classed_tops classes keeps n [] = []
classed_tops classes keeps n (t ∷ tops) =
    (if keeps n then (t.names, slice_index classes n) ∷ [] else []) ++ classed_tops classes keeps (suc n) tops

-- of those of the tops of several units
abbrev pub classed_parts : {P : Type 0} → List ℕ → (ℕ → Bool) → List (NumberedUnit P) → List Classed
classed_parts classes keeps parts = flat_map (λ x. classed_tops classes keeps x.top (cross_tops_in [] x.unit.below)) parts

-- ---- rows

-- the test is passed by just the numbers of tops that import no partial unit
abbrev pub KeepsPlain : {P : Type 0} → Side P → (ℕ → Bool) → Type 0
KeepsPlain {P} s keeps = (n : ℕ) (t : CrossTop P) → IsNthTop s n t → (keeps n ≡ true)
    ↔ ((v : DwUnit P) → IsImport (units_with_common s.files) t.node v → ⊥)

-- these are just the partial units that children of the unit's root import
abbrev pub AreImported : {P : Type 0} → Side P → DwUnit P → List (NumberedUnit P) → Type 0
AreImported {P} s u parts = (y : NumberedUnit P) → In y parts
    ↔ (In y (own_units s ++ common_numbered s) × ((e : Node P) × IsChild e u.below × IsImport (units_with_common s.files) e y.unit))

-- the row of a unit of that kind, with the partial units that it imports
abbrev pub IsListedRow : {P : Type 0} → List ℕ → (ℕ → Bool) → NumberedUnit P → List (NumberedUnit P) → Kind P → UnitRow → Type 0
IsListedRow classes keeps x parts Compile (CompileRow root spaces tops) =
    (root ≡ slice_index classes x.lone) × SameMembers spaces (classed_spaces classes [] (suc x.lone) x.unit.below)
    × SameMembers tops (classed_parts classes keeps (x ∷ parts))
IsListedRow classes keeps x parts (OfType signature main) (TypeRow number path top) =
    (number ≡ signature) × StandsAlong path x.unit.root x.unit.below main × (top ≡ slice_index classes x.top)
IsListedRow classes keeps x parts _ _ = ⊥

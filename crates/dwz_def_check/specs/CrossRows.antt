-- Inner: what is compared of units once nodes have classes: numbers, and lists of name lists with numbers.
use Rattle.std.specs.Prelude.{◌≡◌, ◌↔◌, ℕ, List, slice_index}
use Rattle.dwz_def_reading.specs.Documents.{Compile, DwUnit, Kind, Node, OfType}
use Rattle.dwz_def_reading.specs.Lists.{In}
use Rattle.dwz_def_tops.specs.Spaces.{IsSpace}
use Rattle.dwz_def_cross.specs.Tops.{CrossTop, IsExpanded, StandsAlong, type_top, units_with_common}
use Rattle.dwz_def_check.specs.CrossNames.{IsNthTop, Side}
use Rattle.dwz_def_check.specs.CrossNodes.{IsNthLone}

-- ---- rows of units

-- a name list, and the class of what is under it
abbrev pub Classed : Type 0
Classed = List (List ℕ) × ℕ

-- a compile unit: the class of its root, and the classes of its spaces and of its tops, imports expanded; a type unit: its signature, the
-- path from the root to the type, and the class of its root
pub data UnitRow : Type 0 where
  CompileRow : (root : ℕ) → (spaces tops : List Classed) → UnitRow
  TypeRow : (signature : ℕ) → (path : List ℕ) → (top : ℕ) → UnitRow

abbrev pub HasSpaceClass : {P : Type 0} → Side P → List ℕ → DwUnit P → Classed → Type 0
HasSpaceClass {P} s classes u x = (d : Node P) × (n : ℕ) × IsSpace x.0 d u.below × IsNthLone s n d × (slice_index classes n ≡ x.1)

abbrev pub HasTopClass : {P : Type 0} → Side P → List ℕ → DwUnit P → Classed → Type 0
HasTopClass {P} s classes u x =
    (a : CrossTop P) × (n : ℕ) × IsExpanded (units_with_common s.files) u a × (a.names ≡ x.0) × IsNthTop s n a
    × (slice_index classes n ≡ x.1)

-- just these stand in the list
abbrev pub AreJust : {X : Type 0} → (X → Type 0) → List X → Type 0
AreJust {X} Is xs = (x : X) → In x xs ↔ Is x

-- the row of a unit of that kind
abbrev pub IsKindRow : {P : Type 0} → Side P → List ℕ → DwUnit P → Kind P → UnitRow → Type 0
IsKindRow s classes u Compile (CompileRow root spaces tops) =
    ((n : ℕ) × IsNthLone s n u.root × (slice_index classes n ≡ root)) × AreJust (HasSpaceClass s classes u) spaces
    × AreJust (HasTopClass s classes u) tops
IsKindRow s classes u (OfType signature main) (TypeRow number path top) =
    (number ≡ signature) × StandsAlong path u.root u.below main
    × ((n : ℕ) × IsNthTop s n (type_top u) × (slice_index classes n ≡ top))
IsKindRow s classes u _ _ = ⊥

abbrev pub IsCrossRow : {P : Type 0} → Side P → List ℕ → DwUnit P → UnitRow → Type 0
IsCrossRow s classes u row = IsKindRow s classes u u.kind row

-- ---- rows that are the same

abbrev pub SameMembers : {X : Type 0} → List X → List X → Type 0
SameMembers {X} xs ys = (x : X) → In x xs ↔ In x ys

abbrev pub RowsSame : UnitRow → UnitRow → Type 0
RowsSame (CompileRow root spaces tops) (CompileRow other_root other_spaces other_tops) =
    (root ≡ other_root) × SameMembers spaces other_spaces × SameMembers tops other_tops
RowsSame (TypeRow signature path top) (TypeRow other_signature other_path other_top) =
    (signature ≡ other_signature) × (path ≡ other_path) × (top ≡ other_top)
RowsSame _ _ = ⊥

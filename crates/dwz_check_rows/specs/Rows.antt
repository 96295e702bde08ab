-- Inner: rows as they are compared, in numbers that are in order.
use Rattle.std.specs.Prelude.{◌≡◌, ℕ, suc, ◌<◌, Bool, true, false, List, [], filter, length, map, slice_index, slice_index_or}
use Rattle.dwz_def_check.specs.CrossRows.{SameMembers}
use Rattle.dwz_check_rows.specs.declared.columns.Columns.{Columns}
use Rattle.dwz_check_rows.specs.declared.columns.RowKind.{RowKind}
use Rattle.dwz_check_rows.specs.declared.columns.RowKind.TheVariants.{Compile as CompileUnit, Partial, OfType as TypeUnit}
use Rattle.dwz_check_rows.specs.declared.columns.UnitNodes.{UnitNodes}
use Rattle.dwz_check_rows.specs.declared.row.Row.{Row}
use Rattle.dwz_check_rows.specs.declared.row.Row.TheVariants.{Compile, OfType}
use Rattle.dwz_check_rows.specs.Keys.{IsInOrder, key}
use Rattle.dwz_check_rows.specs.UnitRows.{numbers_between, plain_tops, tops_with_imports, unit_at}

-- ---- units that aren't partial

abbrev pub is_whole : RowKind → Bool
is_whole Partial = false
is_whole _ = true

-- the numbers of those from a up to b
abbrev pub whole_between : Columns → ℕ → ℕ → List ℕ
whole_between c a b = filter (λ x. is_whole (unit_at c x).kind) (numbers_between a b)

-- ---- keys

abbrev pub node_keys : List ℕ → Columns → List ℕ → List ℕ
node_keys classes c nodes = map (key classes c.names) nodes

-- for each unit a list: those of its tops that import nothing
pub record AreTopLists (classes : List ℕ) (c : Columns) (lists : List (List ℕ)) : Type 0 where
  pub long : length lists ≡ length c.units
  pub each : (x : ℕ) → x < length c.units → IsInOrder (node_keys classes c (plain_tops c (unit_at c x))) (slice_index_or lists x [])

-- ---- rows

-- the row of a unit of that kind with that number
abbrev pub IsKindRow : List ℕ → Columns → ℕ → UnitNodes → RowKind → Row → Type 0
IsKindRow classes c x u (CompileUnit root spaces_end) (Compile class spaces tops) =
    (class ≡ slice_index classes root) × IsInOrder (node_keys classes c (numbers_between (suc root) spaces_end)) spaces.items
    × IsInOrder (node_keys classes c (tops_with_imports c x)) tops.items
IsKindRow classes c x u (TypeUnit signature) (OfType number path class) =
    (number ≡ signature) × (path.items ≡ slice_index_or c.paths x []) × (class ≡ slice_index classes u.top)
IsKindRow classes c x u _ _ = ⊥

abbrev pub IsRowOf : List ℕ → Columns → ℕ → Row → Type 0
IsRowOf classes c x row = IsKindRow classes c x (unit_at c x) (unit_at c x).kind row

-- two rows are equal
abbrev pub RowsEqual : Row → Row → Type 0
RowsEqual (Compile class spaces tops) (Compile other_class other_spaces other_tops) =
    (class ≡ other_class) × (spaces.items ≡ other_spaces.items) × (tops.items ≡ other_tops.items)
RowsEqual (OfType signature path class) (OfType other_signature other_path other_class) =
    (signature ≡ other_signature) × (path.items ≡ other_path.items) × (class ≡ other_class)
RowsEqual _ _ = ⊥

-- ---- units whose rows are equal

-- the keys of nodes have the same members
abbrev pub KeysSame : List ℕ → Columns → List ℕ → List ℕ → Type 0
KeysSame classes c nodes others = SameMembers (node_keys classes c nodes) (node_keys classes c others)

abbrev pub KindsSame : List ℕ → Columns → ℕ → ℕ → RowKind → RowKind → Type 0
KindsSame classes c x y (CompileUnit root spaces_end) (CompileUnit other other_end) =
    (slice_index classes root ≡ slice_index classes other)
    × KeysSame classes c (numbers_between (suc root) spaces_end) (numbers_between (suc other) other_end)
    × KeysSame classes c (tops_with_imports c x) (tops_with_imports c y)
KindsSame classes c x y (TypeUnit signature) (TypeUnit other) =
    (signature ≡ other) × (slice_index_or c.paths x [] ≡ slice_index_or c.paths y [])
    × (slice_index classes (unit_at c x).top ≡ slice_index classes (unit_at c y).top)
KindsSame classes c x y _ _ = ⊥

-- two units by their numbers
abbrev pub UnitsSame : List ℕ → Columns → ℕ → ℕ → Type 0
UnitsSame classes c x y = KindsSame classes c x y (unit_at c x).kind (unit_at c y).kind

-- there is a unit with that number, which isn't partial
abbrev pub IsWholeUnit : Columns → ℕ → Type 0
IsWholeUnit c x = (x < length c.units) × (is_whole (unit_at c x).kind ≡ true)

-- What columns of nodes and units say: the rows of the units of each file that aren't partial.
use Rattle.std.specs.Prelude.{◌≡◌, ℕ, suc, ◌+◌, ◌-◌, ◌<◌, ◌≤◌, ◌^◌, List, [], ◌∷◌, ◌++◌, drop, false, filter, length, map, slice_index, slice_index_or, take}
use Rattle.std.specs.List.{flat_map, range_with_len}
use Rattle.dwz_model.specs.Lists.{Each, In}
use Rattle.dwz_def_check.specs.CrossRows.{Classed, CompileRow, TypeRow, UnitRow}
use Rattle.dwz_check_rows.specs.declared.columns.Columns.{Columns}
use Rattle.dwz_check_rows.specs.declared.columns.RowKind.{RowKind}
use Rattle.dwz_check_rows.specs.declared.columns.RowKind.TheVariants.{Compile, Partial, OfType}
use Rattle.dwz_check_rows.specs.declared.columns.UnitNodes.{UnitNodes}

-- ---- nodes of units

-- the numbers from a up to b
abbrev pub numbers_between : ℕ → ℕ → List ℕ
numbers_between a b = range_with_len a (b - a)

-- the tops of a unit that import no partial unit
abbrev pub plain_tops : Columns → UnitNodes → List ℕ
plain_tops c u = filter (λ n. slice_index_or c.plain n false) (numbers_between u.top u.tops_end)

-- where there is none
abbrev pub no_unit : UnitNodes
no_unit = record { kind = Partial; top = 0; tops_end = 0 }

abbrev pub unit_at : Columns → ℕ → UnitNodes
unit_at c x = slice_index_or c.units x no_unit

-- those of a unit, and of the partial units that it imports
abbrev pub tops_with_imports : Columns → ℕ → List ℕ
tops_with_imports c x = flat_map (λ y. plain_tops c (unit_at c y)) (x ∷ slice_index_or c.imports x [])

-- ---- rows

-- what the numbers of name lists stand for: each of these for another list
abbrev pub IsNumbering : List ℕ → (ℕ → List (List ℕ)) → Type 0
IsNumbering names lists = (m n : ℕ) → In m names → In n names → lists m ≡ lists n → m ≡ n

-- the name list and the class of what a node shows
abbrev pub classed : (ℕ → List (List ℕ)) → List ℕ → Columns → ℕ → Classed
classed lists classes c n = (lists (slice_index c.names n), slice_index classes n)

-- the row of a unit of that kind with that number, if it isn't partial
abbrev pub kind_row : (ℕ → List (List ℕ)) → List ℕ → Columns → ℕ → UnitNodes → RowKind → List UnitRow
kind_row lists classes c x u (Compile root spaces_end) =
    CompileRow (slice_index classes root) (map (classed lists classes c) (numbers_between (suc root) spaces_end))
    (map (classed lists classes c) (tops_with_imports c x)) ∷ []
kind_row lists classes c x u (OfType signature) = TypeRow signature (slice_index_or c.paths x []) (slice_index classes u.top) ∷ []
kind_row lists classes c x u Partial = []

-- the rows of units, the first of which has that number
abbrev pub unit_rows : (ℕ → List (List ℕ)) → List ℕ → Columns → ℕ → List UnitNodes → List UnitRow
unit_rows lists classes c x [] = []
unit_rows lists classes c x (u ∷ units) = kind_row lists classes c x u u.kind ++ unit_rows lists classes c (suc x) units

-- those of the old file, and of the new one
abbrev pub old_rows : (ℕ → List (List ℕ)) → List ℕ → Columns → List UnitRow
old_rows lists classes c = unit_rows lists classes c 0 (take c.old c.units)

abbrev pub new_rows : (ℕ → List (List ℕ)) → List ℕ → Columns → List UnitRow
new_rows lists classes c = unit_rows lists classes c c.old (take c.new (drop c.old c.units))

-- ---- columns that fit

-- the nodes of a unit are among so many
abbrev pub IsKindInside : ℕ → ℕ → RowKind → Type 0
IsKindInside count top (Compile root spaces_end) = (root < count) × (spaces_end ≤ count)
IsKindInside count top (OfType signature) = top < count
IsKindInside count top Partial = Unit {0}

abbrev pub IsInside : ℕ → UnitNodes → Type 0
IsInside count u = (u.tops_end ≤ count) × IsKindInside count u.top u.kind

-- for so many nodes: each node has an item in each column of nodes, and each unit in each column of units; and what units have is there
pub record AreColumns (count : ℕ) (c : Columns) : Type 0 where
  pub names : length c.names ≡ count
  pub plain : length c.plain ≡ count
  pub few : length c.units < 2 ^ 32
  pub files : c.old + c.new ≤ length c.units
  pub paths : length c.paths ≡ length c.units
  pub imports : length c.imports ≡ length c.units
  pub inside : Each (IsInside count) c.units
  pub imported : Each (Each (λ y. y < length c.units)) c.imports

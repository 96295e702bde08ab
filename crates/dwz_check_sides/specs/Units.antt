-- The nodes of units.
use Rattle.std.specs.Prelude.{ℕ, ◌+◌, length}
use Rattle.dwz_def_reading.specs.Documents.{Compile as CompileKind, Kind, OfType as TypeKind, Partial as PartialKind}
use Rattle.dwz_def_reading.specs.Units.{CompileUnit, PartialUnit, RawKind, TypeUnit}
use Rattle.dwz_def_check.specs.CrossLists.{NumberedUnit}
use Rattle.dwz_def_check.specs.CrossNames.{unit_tops}
use Rattle.dwz_def_check.specs.CrossNodes.{lone_of}
use Rattle.dwz_check_rows.specs.declared.columns.RowKind.{RowKind}
use Rattle.dwz_check_rows.specs.declared.columns.RowKind.TheVariants.{Compile, OfType, Partial}
use Rattle.dwz_check_rows.specs.declared.columns.UnitNodes.{UnitNodes}

-- a unit of that kind as it is stored, whose root has that number, and behind whose spaces the next number is that one
abbrev pub raw_kind : ℕ → ℕ → RawKind → RowKind
raw_kind root spaces_end CompileUnit = Compile root spaces_end
raw_kind root spaces_end (TypeUnit signature type_offset) = OfType signature
raw_kind root spaces_end PartialUnit = Partial

-- and as it is meant
abbrev pub meant_kind : ℕ → ℕ → Kind ℕ → RowKind
meant_kind root spaces_end CompileKind = Compile root spaces_end
meant_kind root spaces_end (TypeKind signature main) = OfType signature
meant_kind root spaces_end PartialKind = Partial

-- the number behind those of its root and of its spaces, and the one behind those of its tops
abbrev pub lone_end : NumberedUnit ℕ → ℕ
lone_end x = x.lone + length (lone_of x.unit.kind x.unit)

abbrev pub tops_end : NumberedUnit ℕ → ℕ
tops_end x = x.top + length (unit_tops x.unit.kind x.unit)

-- its nodes, where roots and spaces come behind so many others
abbrev pub nodes_of : ℕ → NumberedUnit ℕ → UnitNodes
nodes_of lone x = record { kind = meant_kind (lone + x.lone) (lone + lone_end x) x.unit.kind; top = x.top; tops_end = tops_end x }

-- The operands of the location lists that the sources of new units name, with their new numbers.
use Rattle.std.specs.Prelude.{◌≡◌, ℕ, List, [], Option, Some, None, slice_get}
use Rattle.std.specs.List.{flat_map}
use Rattle.dwz_def_reading.specs.declared.exprs.Operand.{Operand}
use Rattle.dwz_def_reading.specs.Files.{sources_of}
use Rattle.dwz_def_reading.specs.Meanings.{without_siblings}
use Rattle.dwz_def_reading.specs.Units.{RawUnit}
use Rattle.dwz_def_expand.specs.OneFile.{OneFile}
use Rattle.dwz_graph.specs.Resolved.{sources_view}
use Rattle.dwz_unit.specs.Rows.{EntryRow, rows_of}
use Rattle.dwz_expand_layout.specs.Laid.{Made}
use Rattle.dwz_expand_passes.specs.declared.new_file.NewFile.{NewFile}
use Rattle.dwz_expand.specs.Units.{IsLaidOf, IsOfOne}
use Rattle.dwz_expand_passes.specs.Files.{raw_in}
use Rattle.dwz_expand.specs.Gathered.{own_scope, told_in}

-- what is kept is of the file, with its sections, and its new units are laid so
pub record HasLists (f : OneFile) (x : NewFile) (made : Made) : Type 0 where
  pub known : IsOfOne f x
  pub laid : IsLaidOf f x made
  pub sources : sources_view x.own.sections.now ≡ sources_of f.file.bytes

-- those of the copy of an entry of the file in the new unit with a number
abbrev pub told_unit : OneFile → NewFile → ℕ → EntryRow → Option RawUnit → List Operand
told_unit f x n row None = []
told_unit f x n row (Some u) = told_in f n (own_scope x u) (without_siblings row.entry.attrs)

abbrev pub told_row : OneFile → NewFile → ℕ → Option EntryRow → List Operand
told_row f x n None = []
told_row f x n (Some row) = told_unit f x n row (slice_get (raw_in x.own) row.unit)

-- of the source with a number; those of the common file name no lists
abbrev pub told_by : OneFile → NewFile → ℕ × ℕ → List Operand
told_by f x p = told_row f x p.0 (slice_get (rows_of (raw_in x.own)) p.1)

-- of several sources
abbrev pub told_of : OneFile → NewFile → List (ℕ × ℕ) → List Operand
told_of f x ps = flat_map (told_by f x) ps

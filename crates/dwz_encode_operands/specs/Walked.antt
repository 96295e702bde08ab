-- What a walk over values notes of their operands.
use Rattle.std.specs.Prelude.{◌≡◌, ℕ, List, Option}
use Rattle.std.specs.List.{flat_map}
use Rattle.dwz_def_reading.specs.declared.exprs.Operand.{Operand}
use Rattle.dwz_def_reading.specs.Meanings.{MeaningContext, without_siblings}
use Rattle.dwz_encode_operands.specs.First.{first_over, first_of_two}
use Rattle.dwz_encode_operands.specs.Narrow.{number_by}
use Rattle.dwz_def_output.specs.Refusals.{all_of_unit, operands_of_attrs}
use Rattle.dwz_unit.specs.Rows.{EntryRow}

-- each place stands for itself
abbrev pub KeepsPlaces : MeaningContext ℕ → Type 0
KeepsPlaces s = (p : ℕ) → s.around.place p ≡ p

-- the first place is that of these operands and of those before, and these targets are left
pub record NotesOperands (after : ℕ → ℕ) (unit : ℕ) (operands : List Operand) (old new : Option ℕ) (more left : List ℕ) : Type 0 where
  pub first : new ≡ first_of_two old (first_over (number_by after) (all_of_unit unit operands))
  pub behind : left ≡ more

-- the operands of the expressions of an entry, and of entries
abbrev pub row_operands : MeaningContext ℕ → EntryRow → List Operand
row_operands s row = operands_of_attrs s (without_siblings row.entry.attrs)

abbrev pub rows_operands : MeaningContext ℕ → List EntryRow → List Operand
rows_operands s rows = flat_map (row_operands s) rows

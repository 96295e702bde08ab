-- Which values name entries only as references.
use Rattle.std.specs.Prelude.{◌≡◌, ℕ, false, List, length, None, Ok}
use Rattle.dwz_def_reading.specs.Documents.{Node, Value}
use Rattle.dwz_def_reading.specs.Entries.{RawAttr}
use Rattle.dwz_def_reading.specs.Lists.{Each}
use Rattle.dwz_def_reading.specs.Meanings.{MeaningContext}
use Rattle.dwz_def_reading.specs.Meant.{meaning}
use Rattle.dwz_def_tops.specs.Alike.{has_operand}
use Rattle.dwz_graph.specs.Rows.{RowsMean}
use Rattle.dwz_label_marks.specs.Marks.{usual}
use Rattle.dwz_label_words.specs.Told.{AreUsual}
use Rattle.dwz_unit.specs.Rows.{EntryRow}

-- in a file without a supplementary one a value without an operand names an entry only as a reference
abbrev pub UsualLaw : Type 0
UsualLaw =
    (s : MeaningContext ℕ) (a : RawAttr) (v : Value ℕ) → s.around.common ≡ None → meaning s a ≡ Ok v → has_operand v.plain ≡ false
    → length v.refs ≡ usual v.plain

-- no expression of its attributes has an operand
abbrev pub AreFree : Node ℕ → Type 0
AreFree d = Each (λ a. has_operand a.value.plain ≡ false) d.attrs

-- so do entries without operands
abbrev pub UsualRowsLaw : Type 0
UsualRowsLaw =
    (s : MeaningContext ℕ) (rows : List EntryRow) (ds : List (Node ℕ)) → s.around.common ≡ None → RowsMean s rows ds → Each AreFree ds
    → Each AreUsual ds

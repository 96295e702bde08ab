use Rattle.std.proofs.Common.{◌≡◌, ◌-◌, All}
use Rattle.dwz_lines.specs.Marks.{IsMark, Stands, rows_up_to}
use Rattle.dwz_lines.specs.Reading.{bind, times_in}
use Rattle.dwz_lines.specs.RowViews.{item_of}
use Rattle.dwz_lines.proofs.MarkLemmas.{with_all}
use Rattle.dwz_lines.proofs.marked_rows.MarkedRows.read.Given as goal

abbrev pub invariant-loop-number : goal.invariant-loop-number
invariant-loop-number l = record {
  read : times_in (item_of l.reader) l.count l.begin
      ≡ bind (times_in (item_of l.reader) (l.count - l.number) l.cursor) (with_all (rows_up_to (item_of l.reader) l.count l.begin));
  stands : Stands (item_of l.reader) l.begin l.number l.cursor;
  marks : All (IsMark (item_of l.reader) l.begin) l.marks.items;
}

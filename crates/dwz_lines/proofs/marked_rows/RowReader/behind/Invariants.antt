use Rattle.std.proofs.Common.{◌≡◌, ◌-◌}
use Rattle.dwz_lines.specs.Marks.{nth_in}
use Rattle.dwz_lines.specs.RowViews.{item_of}
use Rattle.dwz_lines.proofs.marked_rows.RowReader.behind.Given as goal

abbrev pub invariant-loop-number : goal.invariant-loop-number
invariant-loop-number l = nth_in (item_of l.self) (l.skipped - l._number) l.cursor ≡ nth_in (item_of l.self) l.skipped l.initial.cursor

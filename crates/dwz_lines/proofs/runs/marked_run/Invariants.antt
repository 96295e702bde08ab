use Rattle.std.proofs.Common.{◌-◌, ◌≤◌, All}
use Rattle.dwz_lines.specs.Known.{IsPart, Skips}
use Rattle.dwz_lines.specs.Marks.{IsMark}
use Rattle.dwz_lines.specs.RowViews.{item_of}
use Rattle.dwz_lines.proofs.runs.marked_run.Given as goal

abbrev pub invariant-loop-number : goal.invariant-loop-number
invariant-loop-number l = record {
  within : l.number ≤ l.count;
  skips : Skips (item_of l.known.reader) l.number l.cursor l.end;
  part : IsPart l.known.line.now l.start l.end;
  marks : All (IsMark (item_of l.known.reader) l.cursor) l.marks.items;
}

abbrev pub decreases-loop-number : goal.decreases-loop-number
decreases-loop-number l = l.count - l.number

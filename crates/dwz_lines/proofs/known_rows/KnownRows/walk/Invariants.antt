use Rattle.std.proofs.Common.{◌-◌, ◌≤◌}
use Rattle.dwz_lines.specs.Known.{Spans}
use Rattle.dwz_lines.specs.RowViews.{item_of}
use Rattle.dwz_lines.proofs.known_rows.KnownRows.walk.Given as goal

abbrev pub invariant-loop-walked : goal.invariant-loop-walked
invariant-loop-walked l = record {
  within : l.walked.left ≤ l.rows;
  walked : Spans (item_of l.self.reader) l.self.line.now l.place (l.rows - l.walked.left) l.walked.bytes;
}

abbrev pub decreases-loop-walked : goal.decreases-loop-walked
decreases-loop-walked l = l.walked.left

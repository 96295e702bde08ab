use Rattle.std.proofs.Common.{◌-◌, ◌≤◌, All, List, Option, length}
use Rattle.dwz_bytes.specs.Input.{Input}
use Rattle.dwz_def_reading.specs.LineTables.{PathRow}
use Rattle.dwz_lines.specs.Marks.{IsMark}
use Rattle.dwz_lines.proofs.marked_rows.nearest.Given as goal

abbrev pub invariant-loop-low : goal.invariant-loop-low
invariant-loop-low l = record {
  within : l.high ≤ length l.marks;
  before : l.best.number ≤ l.index;
  mark : (item : Input → Option (PathRow × Input)) → IsMark item l.begin (record { number = 0; begin = l.begin })
      → All (IsMark item l.begin) l.marks → IsMark item l.begin l.best;
}

abbrev pub decreases-loop-low : goal.decreases-loop-low
decreases-loop-low l = l.high - l.low

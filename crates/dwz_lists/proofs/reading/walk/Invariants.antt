use Rattle.std.proofs.Common.{◌≡◌, ◌+◌, [], length}
use Rattle.dwz_bytes.specs.Input.{input}
use Rattle.dwz_def_reading.specs.LocLists.{bad_list}
use Rattle.dwz_lists.specs.Gathering.{in_lists, row_into}
use Rattle.dwz_lists.proofs.reading.walk.Given as goal

abbrev pub invariant-loop-exprs : goal.invariant-loop-exprs
invariant-loop-exprs l = record {
  within : l.cursor.at + length l.cursor.rest ≡ length l.section;
  same : row_into in_lists (bad_list l.at) l.exprs.items l.cursor ≡ row_into in_lists (bad_list l.at) [] (input l.section l.at);
}

abbrev pub decreases-loop-exprs : goal.decreases-loop-exprs
decreases-loop-exprs l = length l.cursor.rest

use Rattle.std.proofs.Common.{◌≡◌, length}
use Rattle.dwz_rounds.specs.Open.{MarksChanged}
use Rattle.dwz_rounds.proofs.opened.mark_changed.Given as goal

abbrev pub invariant-loop-a : goal.invariant-loop-a
invariant-loop-a l = record {
  len : length l.changed ≡ length l.initial.changed;
  marked : MarksChanged l.nodes l.moved l.classes l.live l.a-index l.changed;
}

use Rattle.dwz_unit.specs.Tables.{Grows}
use Rattle.dwz_unit.proofs.ahead.read_all.Given as goal

abbrev pub invariant-loop-offset : goal.invariant-loop-offset
invariant-loop-offset l = Grows l.fn.joined l.joined

use Rattle.dwz_takes.specs.Blocked.{AreKinMarks}
use Rattle.dwz_takes.proofs.staying.kin_marks.Given as goal

abbrev pub invariant-loop-top : goal.invariant-loop-top
invariant-loop-top l = AreKinMarks l.kin l.images l.top l.taken l.flags.items

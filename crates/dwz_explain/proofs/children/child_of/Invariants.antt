use Rattle.dwz_unit.specs.Rows.{units_of}
use Rattle.dwz_explain.proofs.ChildSteps.{Passes}
use Rattle.dwz_explain.proofs.children.child_of.Given as goal

abbrev pub invariant-loop : goal.invariant-loop
invariant-loop l = Passes (units_of l.units) l.entry l.index l.counter l.at l.end

use Rattle.dwz_unit.specs.Rows.{units_of}
use Rattle.dwz_layout_numbers.proofs.BeforeLemmas.{Counted}
use Rattle.dwz_layout_numbers.proofs.firsts.befores.Given as goal

abbrev pub invariant-loop-i : goal.invariant-loop-i
invariant-loop-i l = Counted (units_of l.units) l.i l.before l.befores.items

use Rattle.dwz_reuse.specs.Spaces.{PutsRows}
use Rattle.dwz_unit.specs.Rows.{units_of}
use Rattle.dwz_reuse.proofs.spaces.put_rows.Given as goal

abbrev pub invariant-loop-entry : goal.invariant-loop-entry
invariant-loop-entry l = PutsRows (units_of l.units) l.numbers l.first l.entry l.fn.edges.items l.edges.items

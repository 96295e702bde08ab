use Rattle.dwz_reuse.specs.Refers.{PutsLists}
use Rattle.dwz_reuse.proofs.own.put_edges.Given as goal

abbrev pub invariant-loop-number : goal.invariant-loop-number
invariant-loop-number l = PutsLists l.own l.targets l.number l.fn.edges.items l.edges.items

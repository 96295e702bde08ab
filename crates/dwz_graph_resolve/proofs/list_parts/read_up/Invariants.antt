use Rattle.std.proofs.Common.{◌≡◌, ◌≤◌, ◌-◌, [], length}
use Rattle.dwz_graph_resolve.proofs.ListPasses.{UpTo}
use Rattle.dwz_graph_resolve.proofs.list_parts.read_up.Given as goal

abbrev pub invariant-loop-operands : goal.invariant-loop-operands
invariant-loop-operands l = record {
  within : l.place ≤ length l.section;
  up : l.fn.operands.items ≡ [] → l.fn.places.items ≡ [] → UpTo l.section l.from l.operands.items l.places.items l.place;
}

abbrev pub decreases-loop-operands : goal.decreases-loop-operands
decreases-loop-operands l = length l.section - l.place

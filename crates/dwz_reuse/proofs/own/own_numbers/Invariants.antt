use Rattle.std.proofs.Common.{drop}
use Rattle.dwz_reuse.specs.Refers.{own_by}
use Rattle.dwz_reuse.proofs.NodeSteps.{Left}
use Rattle.dwz_reuse.proofs.own.own_numbers.Given as goal

abbrev pub invariant-loop-node : goal.invariant-loop-node
invariant-loop-node l = Left l.next l.own.items (drop l.node-index l.nodes) (own_by l.first l.nodes)

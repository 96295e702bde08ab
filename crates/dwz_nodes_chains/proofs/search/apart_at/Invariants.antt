use Rattle.std.proofs.Common.{◌<◌, length, reverse}
use Rattle.dwz_nodes_chains.specs.Course.{IsLastPart}
use Rattle.dwz_nodes_chains.proofs.search.apart_at.Given as goal

abbrev pub invariant-back : goal.invariant-back
invariant-back l = record {
  inside : l.row < length l.pairs;
  part : IsLastPart l.nodes l.pairs l.row (reverse l.chain.items) l.first l.second;
}

abbrev pub decreases-back : goal.decreases-back
decreases-back l = l.row

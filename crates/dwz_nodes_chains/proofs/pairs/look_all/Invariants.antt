use Rattle.std.proofs.Common.{◌-◌, length}
use Rattle.dwz_nodes_chains.specs.Course.{Extends, IsSearch}
use Rattle.dwz_nodes_chains.proofs.pairs.look_all.Given as goal

abbrev pub invariant-pairs : goal.invariant-pairs
invariant-pairs l = record {
  extends : Extends l.fn.search.pairs.items l.search.pairs.items;
  search : IsSearch l.nodes l.search.pairs.items l.search.links.above.items l.search.links.heights.items l.at 0;
}

abbrev pub decreases-pairs : goal.decreases-pairs
decreases-pairs l = length l.nodes - l.at

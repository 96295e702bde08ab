use Rattle.dwz_nodes_chains.specs.Course.{Extends, IsSearch}
use Rattle.dwz_nodes_chains.proofs.pairs.look_on.Given as goal

abbrev pub invariant-loop-number : goal.invariant-loop-number
invariant-loop-number l = record {
  extends : Extends l.fn.search.pairs.items l.search.pairs.items;
  search : IsSearch l.nodes l.search.pairs.items l.search.links.above.items l.search.links.heights.items l.at l.number;
}

use Rattle.std.proofs.Common.{◌≡◌, ℕ, ◌-◌, ◌<◌, length}
use Rattle.std.specs.Prelude.{slice_index}
use Rattle.dwz_nodes_chains.specs.Links.{climb}
use Rattle.dwz_nodes_chains.proofs.links.peak_of.Given as goal

abbrev pub invariant-up : goal.invariant-up
invariant-up l = record {
  inside : l.at < length l.links.above.items;
  up : (n : ℕ) × (climb l.links.above.items n l.a ≡ l.at);
}

abbrev pub decreases-up : goal.decreases-up
decreases-up l = length l.links.above.items - slice_index l.links.heights.items l.at

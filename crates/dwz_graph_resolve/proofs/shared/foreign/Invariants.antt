use Rattle.std.proofs.Common.{◌-◌, ◌≤◌, ℕ, length}
use Rattle.dwz_graph_resolve.specs.Apart.{Rows}
use Rattle.dwz_graph_resolve.proofs.ApartLemmas.{OwnBefore}
use Rattle.dwz_graph_resolve.proofs.shared.foreign.Given as goal

abbrev pub invariant-loop-k : goal.invariant-loop-k
invariant-loop-k l = record {
  from : l.first ≤ l.k;
  own : (top high : ℕ) → Rows 0 l.kept top → Rows 0 l.own high → OwnBefore l.kept (record { from = l.from; end = l.end; own = l.own }) l.k;
}

abbrev pub decreases-loop-k : goal.decreases-loop-k
decreases-loop-k l = length l.kept - l.k

use Rattle.std.proofs.Common.{◌-◌, ◌≤◌, ℕ, length}
use Rattle.dwz_graph_resolve.specs.Apart.{Rows, places_of_rows}
use Rattle.dwz_graph_resolve.proofs.SearchLemmas.{Searched}
use Rattle.dwz_graph_resolve.proofs.shared.owns.Given as goal

abbrev pub invariant-loop-low : goal.invariant-loop-low
invariant-loop-low l = record {
  within : l.high ≤ length l.own;
  searched : (top : ℕ) → Rows 0 l.own top → Searched (places_of_rows l.own) 0 (length l.own) l.place l.low l.high;
}

abbrev pub decreases-loop-low : goal.decreases-loop-low
decreases-loop-low l = l.high - l.low

use Rattle.std.proofs.Common.{◌-◌, ◌≤◌, ℕ, length}
use Rattle.dwz_graph_resolve.specs.Apart.{Rows}
use Rattle.dwz_graph_resolve.proofs.ApartLemmas.{Parted, ends}
use Rattle.dwz_graph_resolve.proofs.shared.behind.Given as goal

abbrev pub invariant-loop-low : goal.invariant-loop-low
invariant-loop-low l = record {
  order : l.low ≤ l.high;
  within : l.high ≤ length l.kept;
  parted : (top : ℕ) → Rows 0 l.kept top → Parted (ends l.kept) l.place l.low l.high;
}

abbrev pub decreases-loop-low : goal.decreases-loop-low
decreases-loop-low l = l.high - l.low

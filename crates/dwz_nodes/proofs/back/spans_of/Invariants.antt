use Rattle.std.proofs.Common.{◌≡◌, ℕ, ◌<◌, length, sum, take}
use Rattle.dwz_nodes.specs.Rooms.{span, span_at}
use Rattle.dwz_nodes.proofs.back.spans_of.Given as goal

abbrev pub invariant-loop-count : goal.invariant-loop-count
invariant-loop-count l = record {
  total : l.start ≡ sum (take l.count-index l.counts);
  len : length l.spans.items ≡ l.count-index;
  each : (a : ℕ) → a < l.count-index → span_at l.spans.items a ≡ span (sum (take a l.counts)) (sum (take a l.counts));
}

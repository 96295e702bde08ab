use Rattle.std.proofs.Common.{◌≡◌, ℕ, ◌+◌, ◌*◌, ◌<◌, [], length}
use Rattle.std.specs.Prelude.{slice_index_or}
use Rattle.dwz_label.specs.Stretches.{stretch_of}
use Rattle.dwz_label.proofs.stretches.own_stretches.Given as goal

abbrev pub invariant-loop-turn : goal.invariant-loop-turn
invariant-loop-turn g l = record {
  many : length l.parts.items ≡ l.turn;
  each : (turn : ℕ) → turn < l.turn → slice_index_or l.parts.items turn [] ≡ stretch_of (g.W.LabelWriter.label l.writer) l.count l.len (turn * l.workers + l.worker);
}

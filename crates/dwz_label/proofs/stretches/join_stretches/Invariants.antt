use Rattle.std.proofs.Common.{◌≡◌, ℕ, ◌*◌, List, length}
use Rattle.dwz_label.specs.Stretches.{AreStretches, front}
use Rattle.dwz_label.proofs.stretches.join_stretches.Given as goal

abbrev pub invariant-loop-turn : goal.invariant-loop-turn
invariant-loop-turn l = (label : ℕ → List ℕ) (total len : ℕ) → AreStretches label total len l.parts → l.all ≡ front label total len (l.turn * length l.parts)

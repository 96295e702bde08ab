use Rattle.std.proofs.Common.{◌≡◌, ℕ, ◌+◌, ◌*◌, List, length}
use Rattle.dwz_label.specs.Stretches.{AreStretches, front}
use Rattle.dwz_label.proofs.stretches.with_turn.Given as goal

abbrev pub invariant-loop-part : goal.invariant-loop-part
invariant-loop-part l =
    (label : ℕ → List ℕ) (count len : ℕ) → AreStretches label count len l.parts
    → l.fn.labels ≡ front label count len (l.turn * length l.parts) → l.all ≡ front label count len (l.turn * length l.parts + l.part-index)

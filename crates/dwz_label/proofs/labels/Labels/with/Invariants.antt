use Rattle.std.proofs.Common.{◌≡◌, ℕ, ◌+◌, ◌++◌, map, take}
use Rattle.dwz_label.proofs.labels.Labels.with.Given as goal

abbrev pub invariant-loop-end : goal.invariant-loop-end
invariant-loop-end l = l.ends.items ≡ l.initial.ends.items ++ map (λ (e : ℕ). l.start + e) (take l.end-index l.end-items)

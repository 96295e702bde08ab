use Rattle.std.proofs.Common.{◌≡◌, ℕ, take, filter, get_or, false}
use Rattle.dwz_takes.proofs.taken.marked_of.Given as goal

abbrev pub invariant-loop-number : goal.invariant-loop-number
invariant-loop-number l = l.kept.items ≡ filter (λ (n : ℕ). get_or l.flags n false) (take l.number-index l.list)

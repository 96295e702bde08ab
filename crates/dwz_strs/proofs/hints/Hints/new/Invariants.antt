use Rattle.std.proofs.Common.{◌≡◌, ◌≤◌, All, length}
use Rattle.dwz_strs.proofs.hints.Hints.new.Given as goal

abbrev pub invariant-loop-place : goal.invariant-loop-place
invariant-loop-place l = record { long : length l.places.items ≡ l.room; are : All (λ p. p ≤ length l.numbers) l.places.items }

use Rattle.std.proofs.Common.{◌≡◌, length}
use Rattle.dwz_rounds.proofs.split.clear_parts.Given as goal

abbrev pub invariant-loop-node : goal.invariant-loop-node
invariant-loop-node l = length l.parts ≡ length l.initial.parts

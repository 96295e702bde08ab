use Rattle.std.proofs.Common.{◌≡◌, length}
use Rattle.dwz_rounds.proofs.visit.clear_hits.Given as goal

abbrev pub invariant-loop-a : goal.invariant-loop-a
invariant-loop-a l = length l.hits ≡ length l.initial.hits

use Rattle.std.proofs.Common.{◌≡◌, length}
use Rattle.dwz_match.proofs.BareFacts.{AreBareTo}
use Rattle.dwz_match.proofs.bare.bare_labels.Given as goal

abbrev pub invariant-loop-n : goal.invariant-loop-n
invariant-loop-n l = (length l.bare ≡ l.n) × AreBareTo l.labels l.n l.bare

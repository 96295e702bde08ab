use Rattle.std.proofs.Common.{◌≡◌, ℕ, length}
use Rattle.dwz_match.specs.Kin.{SeenIn}
use Rattle.dwz_match.proofs.KinFacts.{AreKinSoFar, seen_at}
use Rattle.dwz_match.proofs.kin.kin_of.Given as goal

abbrev pub invariant-loop-top : goal.invariant-loop-top
invariant-loop-top l =
    (length l.firsts.items ≡ length l.least)
    × ((k : ℕ) → SeenIn l.least l.files l.top k (seen_at l.firsts.items k))
    × (length l.kin.items ≡ l.top)
    × AreKinSoFar l.least l.files l.top l.kin.items

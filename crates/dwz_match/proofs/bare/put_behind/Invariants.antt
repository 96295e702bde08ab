use Rattle.std.proofs.Common.{◌≡◌, ◌++◌, map, take}
use Rattle.dwz_match.proofs.BareFacts.{zeroed}
use Rattle.dwz_match.proofs.bare.put_behind.Given as goal

abbrev pub invariant-loop-n : goal.invariant-loop-n
invariant-loop-n l = l.bare ≡ l.fn.bare ++ map zeroed (take l.n l.labels)

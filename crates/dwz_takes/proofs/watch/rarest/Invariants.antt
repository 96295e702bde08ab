use Rattle.std.proofs.Common.{take}
use Rattle.dwz_takes.proofs.WatchFacts.{IsRarestOf}
use Rattle.dwz_takes.proofs.watch.rarest.Given as goal

abbrev pub invariant-loop-top : goal.invariant-loop-top
invariant-loop-top l = IsRarestOf l.holders l.classes l.tops (take l.top-index l.tops) l.class

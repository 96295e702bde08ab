use Rattle.std.proofs.Common.{◌≡◌, take}
use Rattle.dwz_move.specs.Sources.{sources_from}
use Rattle.dwz_move.proofs.movable.sources_of.Given as goal

abbrev pub invariant-loop-top : goal.invariant-loop-top
invariant-loop-top l = l.pairs.items ≡ sources_from 0 (take l.top l.targets)

use Rattle.std.proofs.Common.{◌≡◌, ◌++◌, map, take}
use Rattle.dwz_move.specs.Sources.{source}
use Rattle.dwz_move.proofs.movable.add_sources.Given as goal

abbrev pub invariant-loop-target : goal.invariant-loop-target
invariant-loop-target l = l.pairs.items ≡ l.fn.pairs.items ++ map (source l.top) (take l.target-index l.targets)

use Rattle.std.proofs.Common.{◌≡◌, ◌++◌, map, take}
use Rattle.dwz_move.specs.Bound.{somes, target_of}
use Rattle.dwz_move.proofs.tops.add_targets.Given as goal

abbrev pub invariant-loop-target : goal.invariant-loop-target
invariant-loop-target l = l.pairs.items ≡ l.fn.pairs.items ++ map (target_of l.top) (somes (take l.target-index l.into))

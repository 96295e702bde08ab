use Rattle.std.proofs.Common.{◌≡◌, map, take}
use Rattle.dwz_match.proofs.common.starts_of.Given as goal

abbrev pub invariant-loop-unit : goal.invariant-loop-unit
invariant-loop-unit l = l.starts.items ≡ map (λ unit. unit.top) (take l.unit-index l.units)

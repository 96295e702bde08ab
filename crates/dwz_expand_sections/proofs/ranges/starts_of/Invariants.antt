use Rattle.std.proofs.Common.{◌≡◌, map, take}
use Rattle.dwz_expand_sections.proofs.ranges.starts_of.Given as goal

abbrev pub invariant-loop-unit : goal.invariant-loop-unit
invariant-loop-unit l = l.starts.items ≡ map (λ u. u.at) (take l.unit-index l.laid)

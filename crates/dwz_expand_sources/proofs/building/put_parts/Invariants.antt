use Rattle.std.proofs.Common.{◌≡◌, ◌++◌, take}
use Rattle.dwz_expand_sources.specs.Building.{part_ranges}
use Rattle.dwz_expand_sources.proofs.building.put_parts.Given as goal

abbrev pub invariant-loop-part : goal.invariant-loop-part
invariant-loop-part l = l.ranges.items ≡ l.initial.ranges.items ++ part_ranges l.spans (take l.part-index l.parts)

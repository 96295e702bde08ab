use Rattle.std.proofs.Common.{◌-◌, length}
use Rattle.dwz_strs.proofs.SlotSteps.{SlotsSoFar}
use Rattle.dwz_strs.proofs.offset_tables.slots.Given as goal

abbrev pub invariant-loop-at : goal.invariant-loop-at
invariant-loop-at l = SlotsSoFar l.section l.at l.places.items

abbrev pub decreases-loop-at : goal.decreases-loop-at
decreases-loop-at l = length l.section - l.at

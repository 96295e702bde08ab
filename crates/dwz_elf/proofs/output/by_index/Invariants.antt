use Rattle.std.proofs.Common.{◌≤◌, drop, length}
use Rattle.dwz_elf.specs.Places.{AreByIndex}
use Rattle.dwz_elf.proofs.output.by_index.Given as goal

abbrev pub invariant-loop-left : goal.invariant-loop-left
invariant-loop-left l = (l.left ≤ length l.moved) × AreByIndex l.count (drop l.left l.moved) l.places.items

abbrev pub decreases-loop-left : goal.decreases-loop-left
decreases-loop-left l = l.left

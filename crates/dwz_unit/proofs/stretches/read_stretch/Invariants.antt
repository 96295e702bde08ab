use Rattle.std.proofs.Common.{◌-◌, length}
use Rattle.dwz_unit.specs.Stretches.{AreRead}
use Rattle.dwz_unit.proofs.stretches.read_stretch.Given as goal

abbrev pub invariant-loop-at : goal.invariant-loop-at
invariant-loop-at l = AreRead l.info l.mode l.tables l.first l.at l.units.items l.entries.items

abbrev pub decreases-loop-at : goal.decreases-loop-at
decreases-loop-at l = length l.info - l.at

use Rattle.std.proofs.Common.{◌-◌, length}
use Rattle.dwz_unit.proofs.ReadLemmas.{ReadSoFar}
use Rattle.dwz_unit.specs.Kept.{known_in}
use Rattle.dwz_unit.specs.Modes.{mode_view}
use Rattle.dwz_unit.proofs.units.Units.read_all.Given as goal

abbrev pub invariant-loop-at : goal.invariant-loop-at
invariant-loop-at l = ReadSoFar l.info l.abbrevs (mode_view l.mode) l.at l.tables l.units.items (known_in l.tables l.entries.items)

abbrev pub decreases-loop-at : goal.decreases-loop-at
decreases-loop-at l = length l.info - l.at

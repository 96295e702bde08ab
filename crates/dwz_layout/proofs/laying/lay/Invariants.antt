use Rattle.std.proofs.Common.{◌≡◌, length}
use Rattle.dwz_layout.specs.Attributes.{here_of}
use Rattle.dwz_layout.specs.Entries.{entries_of}
use Rattle.dwz_layout.specs.Laid.{laid_unit, laying_of, with_entries}
use Rattle.dwz_layout.proofs.laying.lay.Given as goal

abbrev pub invariant-loop-entry : goal.invariant-loop-entry
invariant-loop-entry l =
    with_entries l.known (here_of l.known l.here l.unit.sort) (entries_of l.walk) (laying_of l.laying l.places) ≡ laid_unit l.known l.here l.at l.fn.places l.unit

abbrev pub decreases-loop-entry : goal.decreases-loop-entry
decreases-loop-entry l = length l.walk

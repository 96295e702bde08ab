use Rattle.std.proofs.Common.{◌≡◌, drop}
use Rattle.dwz_layout.specs.Laid.{made, no_unit, with_units}
use Rattle.dwz_layout.proofs.layout.lay_file.Given as goal

abbrev pub invariant-loop-unit : goal.invariant-loop-unit
invariant-loop-unit l =
    with_units l.known l.here (drop l.unit-index l.units) (made l.file l.spots) ≡ with_units l.known l.first l.units (no_unit l.fn.spots.places.items l.fn.spots.roots.items)

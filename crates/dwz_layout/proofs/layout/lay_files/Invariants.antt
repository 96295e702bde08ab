use Rattle.std.proofs.Common.{◌≡◌, drop}
use Rattle.dwz_layout.specs.Laid.{made_from, no_file, with_files}
use Rattle.dwz_layout.proofs.LaidLemmas.{all_made}
use Rattle.dwz_layout.proofs.layout.lay_files.Given as goal

abbrev pub invariant-loop-units : goal.invariant-loop-units
invariant-loop-units l =
    with_files l.known l.first (drop l.units-index l.files) (all_made l.laid.items l.spots.places.items l.spots.roots.items)
    ≡ made_from l.known l.files (no_file l.fn.start.places.items l.fn.start.roots.items)

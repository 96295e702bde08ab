use Rattle.std.proofs.Common.{◌≡◌, ◌++◌, drop}
use Rattle.dwz_encode.specs.Pages.{units_page}
use Rattle.dwz_encode.proofs.units.info_of.Given as goal

abbrev pub invariant-loop-i : goal.invariant-loop-i
invariant-loop-i l =
    l.info.items ++ units_page l.known l.spots.places.items l.spots.roots.items l.here (drop l.i l.units) (drop l.i l.laid.units.items)
    ≡ units_page l.known l.spots.places.items l.spots.roots.items l.first l.units l.laid.units.items

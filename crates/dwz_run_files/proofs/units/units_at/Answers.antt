use Rattle.std.proofs.Common.{◌∙◌}
use Rattle.dwz_run_files.proofs.StepsFound.{places_found}
use Rattle.dwz_run_files.proofs.units.units_at.Goals as goal

pub returns-clause-places : goal.returns-clause-places
returns-clause-places c beside f is =
    places_found f c.args.work.now c.args.moved.now is c.unit_places.result c.as_slice-places.result.now (c.as_slice-places.ensures.value
    ∙ c.spots.ensures.places)
    c.unit_places.ensures.are

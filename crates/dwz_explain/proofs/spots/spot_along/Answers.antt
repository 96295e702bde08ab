use Rattle.dwz_explain.proofs.EntrySteps.{along_shows, there_has}
use Rattle.dwz_explain.proofs.spots.spot_along.Goals as goal

pub returns-clause-has : goal.returns-clause-has
returns-clause-has c =
    there_has c.args.run.now.files.now c.args.spot c.find_entry-entry.result c.units_at-units.result.now c.units_at-units.ensures c.requires c.find_entry-entry.ensures.has

pub returns-clause-shows : goal.returns-clause-shows
returns-clause-shows c =
    along_shows c.args.run.now.graph.now.given c.args.run.now.files.now c.args.spot c.find_entry-entry.result c.units_at-units.result.now c.args.path.now c.units_at-units.ensures
    c.find_entry-entry.ensures.along

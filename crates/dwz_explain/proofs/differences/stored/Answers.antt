use Rattle.dwz_unit.specs.Rows.{units_of}
use Rattle.dwz_explain.proofs.ChildSteps.{entry_there}
use Rattle.dwz_explain.proofs.EntrySteps.{has_there, place_there, tag_is}
use Rattle.dwz_explain.proofs.differences.stored.Goals as goal

pub entry-requires : goal.entry-requires
entry-requires c =
    let units = c.units_at.result.now in
    entry_there (units_of units) c.args.spot.entry (has_there c.args.run.now.files.now c.args.spot units c.units_at.ensures c.requires)

pub returns-clause-tag : goal.returns-clause-tag
returns-clause-tag c = tag_is c.args.run.now.graph.now.given c.args.run.now.files.now c.args.spot c.units_at.result.now c.entry.result c.units_at.ensures c.entry.ensures.entry

pub returns-clause-place : goal.returns-clause-place
returns-clause-place c = place_there c.args.run.now.graph.now.given c.args.run.now.files.now c.args.spot c.units_at.result.now c.entry.result c.units_at.ensures c.entry.ensures.entry

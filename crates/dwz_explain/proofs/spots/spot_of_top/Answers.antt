use Rattle.dwz_explain.proofs.SpotSteps.{top_has, top_shows}
use Rattle.dwz_explain.proofs.spots.spot_of_top.Goals as goal

pub returns-clause-has : goal.returns-clause-has
returns-clause-has c =
    let run = c.args.run.now in
    let a = c.requires.asked in
    top_has run.graph.now.given run.files.now run.indexes.now a.kept a.indexed c.place_of_top-file.result.file c.args.top c.entry_of-entry.result c.requires.there c.place_of_top-file.ensures.file
    c.entry_of-entry.ensures

pub returns-clause-shows : goal.returns-clause-shows
returns-clause-shows c =
    let run = c.args.run.now in
    let a = c.requires.asked in
    top_shows run.graph.now.given run.files.now run.indexes.now a.kept a.indexed c.place_of_top-file.result.file c.args.top c.entry_of-entry.result c.place_of_top-file.ensures.file c.entry_of-entry.ensures

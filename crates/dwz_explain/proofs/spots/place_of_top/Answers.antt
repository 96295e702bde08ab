use Rattle.std.proofs.Common.{false, get_or}
use Rattle.dwz_groups.specs.declared.tops.TopRow.{TopRow}
use Rattle.dwz_explain.proofs.SpotSteps.{row_got, row_holds, row_place}
use Rattle.dwz_explain.proofs.spots.place_of_top.Goals as goal

abbrev no_row : TopRow
no_row = record { place = record { file = 0; offset = 0 }; unit = 0; weight = 0; movable = false; pinned = false }

pub returns-clause-file : goal.returns-clause-file
returns-clause-file c =
    let run = c.args.run.now in
    let a = c.requires.asked in
    let rows = c.as_slice.result.now in
    row_holds run.graph.now.given run.files.now run.indexes.now a.kept a.indexed run.tops.now a.outline c.args.top (get_or rows c.args.top no_row) c.requires.there
    (row_got run.graph.now.given run.files.now run.indexes.now a.kept a.indexed run.tops.now a.outline rows c.args.top no_row c.as_slice.ensures c.requires.there)

pub returns-clause-offset : goal.returns-clause-offset
returns-clause-offset c =
    let run = c.args.run.now in
    let a = c.requires.asked in
    let rows = c.as_slice.result.now in
    row_place run.graph.now.given run.files.now run.indexes.now a.kept a.indexed run.tops.now a.outline c.args.top (get_or rows c.args.top no_row)
    (row_got run.graph.now.given run.files.now run.indexes.now a.kept a.indexed run.tops.now a.outline rows c.args.top no_row c.as_slice.ensures c.requires.there)

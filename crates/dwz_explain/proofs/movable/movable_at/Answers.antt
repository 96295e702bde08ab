use Rattle.std.proofs.Common.{List, subst, arith}
use Rattle.dwz_graph.specs.Files.{docs_of}
use Rattle.dwz_graph.proofs.IndexesThere.{indexes_there}
use Rattle.dwz_groups.specs.declared.tops.TopRow.{TopRow}
use Rattle.dwz_def_reading.proofs.ListFacts.{got_below}
use Rattle.dwz_move_files.proofs.FilesLow.{tops_few}
use Rattle.dwz_explain.specs.Found.{HasRowAt, NoRowAt}
use Rattle.dwz_explain.proofs.RowPlaces.{movable_here, none_here, rows_many}
use Rattle.dwz_explain.proofs.movable.movable_at.Goals as goal

pub overflow_cast-result : goal.overflow_cast-result
overflow_cast-result c =
    let h = subst (λ (rs : List TopRow). HasRowAt rs c.args.place c.in-Some.number) c.as_slice.ensures c.in-Some.ensures in
    let low = got_below c.args.tops.now.rows c.in-Some.number h.row h.there in
    let many = rows_many (docs_of c.args.graph.now.given) c.args.tops.now c.requires in
    let there = indexes_there c.args.graph.now.given c.files-files.result.now c.files-files.ensures in
    let few = tops_few c.args.graph.now.given c.files-files.result.now there.indexes c.files-files.ensures there.are in
    omega (arith, low, many, few)

pub returns-in-None : goal.returns-in-None
returns-in-None c = none_here (docs_of c.args.graph.now.given) c.args.tops.now c.requires c.args.place (subst (λ (rs : List TopRow). NoRowAt rs c.args.place) c.as_slice.ensures c.in-None.ensures)

pub returns-in-Some : goal.returns-in-Some
returns-in-Some c =
    movable_here (docs_of c.args.graph.now.given) c.args.tops.now c.requires c.args.place c.in-Some.number
    (subst (λ (rs : List TopRow). HasRowAt rs c.args.place c.in-Some.number) c.as_slice.ensures c.in-Some.ensures)

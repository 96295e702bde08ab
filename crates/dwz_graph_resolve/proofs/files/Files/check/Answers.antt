use Rattle.std.proofs.Common.{rules, List, slice_get, ap, ◌∙◌}
use Rattle.std.specs.Prelude.{ℤ}
use mir.Syntax.{w128}
use mir.Val.{SFits}
use Rattle.std.proofs.lemmas.Int.{to_z-of_z}
use Rattle.std.specs.Option.{is_some}
use Rattle.dwz_def_reading.specs.LineTables.{FileTable}
use Rattle.dwz_def_reading.specs.Meanings.{path_by}
use Rattle.dwz_graph_resolve.specs.Resolved.{sources_view}
use Rattle.dwz_graph_resolve.proofs.FileSteps.{says_row}
use Rattle.dwz_graph_resolve.proofs.files.Files.check.Goals as goal

pub returns-in_ok-table-in-Some-clause-says : goal.returns-in_ok-table-in-Some-clause-says
returns-in_ok-table-in-Some-clause-says c = λ know. (
    let fits : SFits w128 c.number_of-number.result = search rules in
    let found = c.in_ok-table-in-Some.ensures.finds know in
    says_row (sources_view c.args.sections.now) c.table.new.self c.args.line c.in-Some.place c.in_ok-table-in-Some.table c.args.at _ c.has_row-is_there.result c.unless_missing-in-Some.result
    c.in-Some.is found.0 found.1
    (λ t there. (let row = c.has_row-is_there.ensures t (ap (λ (w : List FileTable). slice_get w c.in_ok-table-in-Some.table) c.deref.ensures.value ∙ there) in row
    ∙ ap (λ (z : ℤ). is_some (path_by t z)) (to_z-of_z w128 c.number_of-number.result fits ∙ c.number_of-number.ensures))) c.unless_missing-in-Some.ensures)

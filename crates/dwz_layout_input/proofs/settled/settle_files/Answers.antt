use Rattle.std.proofs.Common.{◌+◌, length, sym, ◌∙◌}
use Rattle.std.proofs.lemmas.Result.{IfOk-weaker}
use Rattle.dwz_graph.proofs.IndexesThere.{indexes_there}
use Rattle.dwz_layout_input.specs.Parts.{AreParts}
use Rattle.dwz_layout_input.proofs.FactsAre.{hold_alone, planned_of}
use Rattle.dwz_layout_input.proofs.SettledParts.{all_fit, all_settled, imports_settled}
use Rattle.dwz_layout_input.proofs.settled.settle_files.Goals as goal

pub settle-requires-clause-homes : goal.settle-requires-clause-homes
settle-requires-clause-homes c = c.requires.planned.fits.homes ∙ sym c.requires.planned.fits.rows

pub returns-clause-settled : goal.returns-clause-settled
returns-clause-settled c = λ indexes are. (
    let contents = c.args.graph.now.given in
    let p = c.args.planned in
    IfOk-weaker c.settle.result (λ r. AreParts contents indexes p r) _
    (λ r parts f s of lends. all_settled contents indexes p r parts f (planned_of contents indexes c.args.scope p f of c.requires.planned) s lends) (c.settle.ensures.parts indexes are))

pub returns-clause-importing : goal.returns-clause-importing
returns-clause-importing c = λ indexes are. (
    let contents = c.args.graph.now.given in
    let p = c.args.planned in
    IfOk-weaker c.settle.result (λ r. AreParts contents indexes p r) _
    (λ r parts f of. imports_settled contents indexes p r parts f (planned_of contents indexes c.args.scope p f of c.requires.planned)) (c.settle.ensures.parts indexes are))

pub returns-clause-fits : goal.returns-clause-fits
returns-clause-fits c =
    let contents = c.args.graph.now.given in
    let p = c.args.planned in
    let there = indexes_there contents c.files-files.result.now c.files-files.ensures in
    let hold = hold_alone contents c.files-files.result.now there.indexes c.args.scope p c.files-files.ensures there.are c.requires.planned in
    IfOk-weaker c.settle.result (λ r. AreParts contents there.indexes p r) _
    (λ r parts s lends. all_fit contents there.indexes p r parts (length contents + 1) s lends hold) (c.settle.ensures.parts there.indexes there.are)

use Rattle.std.proofs.Common.{◌≡◌, ℕ, length, sym, subst, ◌∙◌}
use Rattle.std.proofs.lemmas.Result.{IfOk-weaker}
use Rattle.dwz_def_tops.specs.Spots.{tops_of, units_of}
use Rattle.dwz_graph.specs.Files.{docs_of}
use Rattle.dwz_graph.proofs.IndexesThere.{indexes_there}
use Rattle.dwz_graph.proofs.FileCounts.{are_many}
use Rattle.dwz_layout_input.specs.Parts.{AreParts, HoldSome}
use Rattle.dwz_layout_input.proofs.FactsOver.{planned_over}
use Rattle.dwz_layout_input.proofs.FirstOver.{hold_over}
use Rattle.dwz_layout_input.proofs.SettledParts.{all_fit, all_settled, imports_settled}
use Rattle.dwz_layout_input.proofs.settled.settle_files_over.Goals as goal

pub settle-requires-clause-few_rows : goal.settle-requires-clause-few_rows
settle-requires-clause-few_rows c = c.requires.planned.2.fits.few_rows

pub settle-requires-clause-homes : goal.settle-requires-clause-homes
settle-requires-clause-homes c = (let fits = c.requires.planned.2.fits in fits.homes ∙ sym fits.rows)

pub returns-clause-settled : goal.returns-clause-settled
returns-clause-settled c = λ indexes are. (
    let contents = c.args.graph.now.given in
    let p = c.args.planned in
    IfOk-weaker c.settle.result (λ r. AreParts contents indexes p r) _
    (λ r parts s f t of lends. all_settled contents indexes p r parts f (planned_over contents indexes p s f of) t lends) (c.settle.ensures.parts indexes are))

pub returns-clause-importing : goal.returns-clause-importing
returns-clause-importing c = λ indexes are. (
    let contents = c.args.graph.now.given in
    let p = c.args.planned in
    IfOk-weaker c.settle.result (λ r. AreParts contents indexes p r) _
    (λ r parts s f of. imports_settled contents indexes p r parts f (planned_over contents indexes p s f of)) (c.settle.ensures.parts indexes are))

pub returns-clause-fits : goal.returns-clause-fits
returns-clause-fits c =
    let contents = c.args.graph.now.given in
    let p = c.args.planned in
    let there = indexes_there contents c.files-files.result.now c.files-files.ensures in
    let many = are_many contents c.files-files.result.now there.indexes c.files-files.ensures there.are in
    let some = c.requires.planned in
    let same : length (docs_of contents) ≡ length contents = sym many.2 in
    let hold = subst (λ (n : ℕ). HoldSome n (length (tops_of (units_of (docs_of contents)))) p.plan.partials) same (hold_over (docs_of contents) some.0 some.1 p some.2) in
    IfOk-weaker c.settle.result (λ r. AreParts contents there.indexes p r) _
    (λ r parts s lends. all_fit contents there.indexes p r parts (length contents) s lends hold) (c.settle.ensures.parts there.indexes there.are)

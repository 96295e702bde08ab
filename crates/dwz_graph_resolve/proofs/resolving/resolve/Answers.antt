use Rattle.std.proofs.lemmas.Result.{err_from_is_err_and}
use Rattle.dwz_unit.specs.Rows.{units_of}
use Rattle.dwz_graph_resolve.specs.Surroundings.{around_in}
use Rattle.dwz_graph_resolve.proofs.Answering.{said_fail}
use Rattle.dwz_graph_resolve.proofs.resolving.resolve.Goals as goal

pub returns-in_err-whole-clause-answers : goal.returns-in_err-whole-clause-answers
returns-in_err-whole-clause-answers c =
    let p = err_from_is_err_and c.from_residual.result c.from_residual.ensures.1 in
    let raw = units_of c.args.units.now in
    rw (p.1, p.2) (said_fail (around_in c.args.around.now raw) raw c.args.around.now.sections.aranges.now c.in_err-whole.field-0.0 c.in_err-whole.ensures.err)

use Rattle.std.proofs.lemmas.Result.{err_from_is_err_and}
use Rattle.dwz_lists.proofs.PairLemmas.{pair_bad, pair_read}
use Rattle.dwz_lists.proofs.reading.entry_into.Goals as goal

pub returns-in_err-read_into-clause-found : goal.returns-in_err-read_into-clause-found
returns-in_err-read_into-clause-found c =
    let p = err_from_is_err_and c.from_residual.result c.from_residual.ensures.1 in
    rw (p.1, p.2) (pair_bad c.args.section.now c.args.at c.in-Some.span c.in-Some.ensures _ c.in_err-read_into.field-0.0 c.in_err-read_into.ensures.found)

pub returns-in-Some-clause-found : goal.returns-in-Some-clause-found
returns-in-Some-clause-found c =
    pair_read c.args.section.now c.args.at c.in-Some.span c.in-Some.ensures _ c.in_ok-read_into.field-0 c.in_ok-read_into.ensures.found

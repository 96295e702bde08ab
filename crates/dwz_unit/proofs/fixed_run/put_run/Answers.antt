use Rattle.std.proofs.Common.{◌≡◌, length, sym, ap, subst, ◌∙◌, arith}
use Rattle.std.specs.Prelude.{slice_get}
use Rattle.dwz_unit.specs.FixedRuns.{TellRuns}
use Rattle.dwz_unit.proofs.FixedRunLemmas.{run_told}
use Rattle.dwz_unit.proofs.fixed_run.put_run.Goals as goal

pub returns-in_err-push : goal.returns-in_err-push
returns-in_err-push c = λ decls at told. subst (TellRuns decls) (sym c.in_err-push.ensures.items) told

pub returns : goal.returns
returns c =
    let runs = c.args.runs.now.items in
    let next : length runs ≡ c.args.number = omega (arith, c.args.runs.now.ok.0) in
    λ decls at told. subst (TellRuns decls) (sym c.in_ok-push.ensures.items)
    (run_told decls runs c.args.pairs.now c.run_of.result told (ap (slice_get decls) next ∙ at) c.run_of.ensures)

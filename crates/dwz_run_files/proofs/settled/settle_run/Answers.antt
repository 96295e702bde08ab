use Rattle.std.proofs.Common.{refl}
use Rattle.dwz_graph.specs.Files.{docs_of}
use Rattle.dwz_layout_input.specs.Settled.{ArePlanned}
use Rattle.dwz_run_files.specs.declared.settled.SettledRun.{SettledRun}
use Rattle.dwz_run_files.proofs.RunSettled.{run_settled}
use Rattle.dwz_run_files.proofs.settled.settle_run.Goals as goal

pub returns-clause-settled : goal.returns-clause-settled
returns-clause-settled g c =
    let indexes = c.indexes-indexes.result.now in
    let are = c.indexes-indexes.ensures in
    let a : SettledRun = record { indexes = c.indexes-indexes.result; settled = c.in_ok-settled.settled } in
    let planned : ArePlanned c.args.scope (docs_of c.args.graph.now.given) c.in_ok-planned.planned = record {
      outline = c.in_ok-planned.ensures.outline;
      plan = c.in_ok-planned.ensures.plan;
      fits = c.in_ok-planned.ensures.fits;
    } in
    run_settled c.args.graph.now.given c.files-files.result.now a indexes c.args.scope c.in_ok-planned.planned
    c.files-files.ensures refl
    c.in_ok-settled.ensures.scope c.in_ok-settled.ensures.planned are planned (c.in_ok-settled.ensures.settled indexes are)
    (c.in_ok-settled.ensures.importing indexes are) c.in_ok-settled.ensures.fits
    c.as_settled-lent.result
    c.as_settled-lent.ensures

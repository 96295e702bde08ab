use Rattle.std.proofs.Common.{subst, refl}
use Rattle.dwz_def_taken.specs.Beside.{reused_of}
use Rattle.dwz_def_taken.specs.Takes.{IsFixed}
use Rattle.dwz_def_taken.specs.declared.fixed.Fixed.{Fixed}
use Rattle.dwz_graph.specs.Files.{docs_of}
use Rattle.dwz_layout_input.specs.PlannedOver.{ArePlannedOver}
use Rattle.dwz_run_files.specs.declared.settled.SettledRun.{SettledRun}
use Rattle.dwz_run_files.proofs.OverSettled.{settled_over}
use Rattle.dwz_run_files.proofs.settled.settle_over.Goals as goal

pub plan_over-requires-clause-taken : goal.plan_over-requires-clause-taken
plan_over-requires-clause-taken g c = λ κs within. (c.requires.standing.0.doc, c.requires.standing.1.taken)

pub settle_files_over-requires-clause-planned : goal.settle_files_over-requires-clause-planned
settle_files_over-requires-clause-planned g c =
    let s = c.requires.standing in (s.0.doc, c.args.standing.now.fixed.now, c.in_ok-planned.ensures s.0.doc s.1.taken)

pub returns : goal.returns
returns g c s is =
    let docs = docs_of c.args.graph.now.given in
    let indexes = c.indexes-indexes.result.now in
    let are = c.indexes-indexes.ensures in
    let a : SettledRun = record { indexes = c.indexes-indexes.result; settled = c.in_ok-settled.settled } in
    let p = c.in_ok-planned.planned in
    let planned : ArePlannedOver docs s.doc s.fixed p =
    subst (λ (fx : Fixed). ArePlannedOver docs s.doc fx p) is.fixed_is (c.in_ok-planned.ensures s.doc is.taken) in
    let fixed : IsFixed (reused_of docs s.doc) s.fixed = subst (IsFixed (reused_of docs s.doc)) is.fixed_is is.taken.fixed_is in
    settled_over s c.args.graph.now.given c.files-files.result.now a c.files-files.ensures p c.in_ok-settled.ensures.planned are is.taken.placed
    fixed planned
    (λ f t of lends. c.in_ok-settled.ensures.settled indexes are s f t of lends)
    (λ f of. c.in_ok-settled.ensures.importing indexes are s f of) c.in_ok-settled.ensures.fits
    c.as_settled-lent.result c.as_settled-lent.ensures

use Rattle.std.proofs.Common.{ℕ, List, Vec, Global, map, subst, ◌∙◌}
use Rattle.std.proofs.lemmas.List.{length-map}
use Rattle.std.proofs.lemmas.Result.{err_from_is_err_and}
use Rattle.dwz_def_run.specs.Comes.{reusing}
use Rattle.dwz_def_run.specs.Reuses.{ReusesOf}
use Rattle.dwz_run_course.specs.Answers.{IsAnswer}
use Rattle.dwz_run.proofs.FilesReused.{are, given_files, has, has_common, is_over, known, rows_over, unread_over, x}
use Rattle.dwz_run.proofs.reused.written_over.Goals as goal

pub returns-in_err-graph : goal.returns-in_err-graph
returns-in_err-graph g c =
    let p = err_from_is_err_and c.from_residual.result c.from_residual.ensures.1 in
    rw (p.1, p.2)
    (unread_over (reusing c.args.options.now) c.args.common.now (map (λ (v : Vec ℕ Global). v.items) c.args.files.now) c.in_err-graph.field-0.0 c.in_err-graph.ensures.answers)

pub say_alone-requires : goal.say_alone-requires
say_alone-requires g c =
    (c.args.common.now, has_common c.args.common.now (map (λ (v : Vec ℕ Global). v.items) c.args.files.now) c.in_ok-graph.graph c.in_ok-graph.ensures.contents)

pub make_over-requires-clause-taken : goal.make_over-requires-clause-taken
make_over-requires-clause-taken g c κs within =
    let common = c.args.common.now in
    let files = map (λ (v : Vec ℕ Global). v.items) c.args.files.now in
    let graph = c.in_ok-graph.graph in
    let k = known common files graph c.in_ok-prunes.prunes.items c.deref.result.now c.in_ok-fixed.fixed c.in_ok-graph.ensures.contents c.in_ok-graph.ensures.answers c.say_alone.ensures
    c.deref.ensures.value c.in_ok-prunes.ensures c.in_ok-fixed.ensures in
    (x common files graph c.deref.result.now c.in_ok-fixed.fixed k, is_over common files graph c.deref.result.now c.in_ok-fixed.fixed k)

pub outcome_over-requires-clause-each : goal.outcome_over-requires-clause-each
outcome_over-requires-clause-each g c =
    let common = c.args.common.now in
    let files = map (λ (v : Vec ℕ Global). v.items) c.args.files.now in
    let graph = c.in_ok-graph.graph in
    let k = known common files graph c.in_ok-prunes.prunes.items c.deref.result.now c.in_ok-fixed.fixed c.in_ok-graph.ensures.contents c.in_ok-graph.ensures.answers c.say_alone.ensures
    c.deref.ensures.value c.in_ok-prunes.ensures c.in_ok-fixed.ensures in
    let new = c.in_ok-made.ensures (x common files graph c.deref.result.now c.in_ok-fixed.fixed k) (is_over common files graph c.deref.result.now c.in_ok-fixed.fixed k) in
    rows_over common files graph c.deref.result.now c.in_ok-fixed.fixed k c.in_ok-made.made.files.items c.in_ok-made.made.partials new.1
    ∙ length-map c.args.files.now (λ (v : Vec ℕ Global). v.items)

pub returns : goal.returns
returns g c =
    let common = c.args.common.now in
    let files = map (λ (v : Vec ℕ Global). v.items) c.args.files.now in
    let graph = c.in_ok-graph.graph in
    let k = known common files graph c.in_ok-prunes.prunes.items c.deref.result.now c.in_ok-fixed.fixed c.in_ok-graph.ensures.contents c.in_ok-graph.ensures.answers c.say_alone.ensures
    c.deref.ensures.value c.in_ok-prunes.ensures c.in_ok-fixed.ensures in
    let over = x common files graph c.deref.result.now c.in_ok-fixed.fixed k in
    let new = c.in_ok-made.ensures over (is_over common files graph c.deref.result.now c.in_ok-fixed.fixed k) in
    subst (λ (fs : List (List ℕ)). IsAnswer (ReusesOf (reusing c.args.options.now) common fs) c.outcome_over.result) (given_files common files graph c.in_ok-graph.ensures.contents)
    (c.outcome_over.ensures over (has common files graph c.deref.result.now c.in_ok-fixed.fixed k) (are common files graph c.deref.result.now c.in_ok-fixed.fixed k) new.1)

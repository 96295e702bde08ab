use Rattle.std.proofs.Common.{List, length, sym, ap, ◌∙◌, arith}
use Rattle.dwz_plan.specs.declared.plan.Partial.{Partial}
use Rattle.dwz_plan.specs.Planned.{Planned}
use Rattle.dwz_run_files.proofs.FilesMade.{are_new, is_new_common}
use Rattle.dwz_run_files.proofs.WorksMade.{parts_few, works_of}
use Rattle.dwz_run_files.proofs.made.make_files.Goals as goal

pub lay_files-requires-clause-works : goal.lay_files-requires-clause-works
lay_files-requires-clause-works g c = λ lifetimes lives. (
    let r = c.in_ok-ready.ensures.ready in
    (r.facts, works_of c.args.graph.now.given c.args.prunes.now c.in_ok-ready.ready r c.requires.few, r.texts))

pub overflow_cast-partials : goal.overflow_cast-partials
overflow_cast-partials g c =
    let few = parts_few c.args.graph.now.given c.args.prunes.now c.in_ok-ready.ready c.in_ok-ready.ensures.ready in
    let long = ap (λ (ps : List Partial). length ps) c.partials.ensures in
    omega (arith, few, long)

pub returns-clause-common : goal.returns-clause-common
returns-clause-common g c =
    let r = c.in_ok-ready.ensures.ready in
    let all = c.in_ok-ready.ready in
    let works = works_of c.args.graph.now.given c.args.prunes.now all r c.requires.few in
    is_new_common c.args.graph.now.given c.args.prunes.now c.args.scope all.files r.facts c.in_ok-ready.ensures.scope r.theirs
    c.in_ok-laid.laid.common
    (c.in_ok-laid.ensures.common r.facts works r.texts)

pub returns-clause-files : goal.returns-clause-files
returns-clause-files g c =
    let r = c.in_ok-ready.ensures.ready in
    let all = c.in_ok-ready.ready in
    let works = works_of c.args.graph.now.given c.args.prunes.now all r c.requires.few in
    are_new c.args.graph.now.given c.args.prunes.now c.args.scope all.files r.facts c.in_ok-ready.ensures.scope r.theirs r.ready.can.facts
    c.in_ok-laid.laid.files.items _
    (c.in_ok-laid.ensures.files r.facts works)
    (ap (λ (ps : List Partial). length ps) c.partials.ensures ∙ ap (λ (q : Planned). length q.partials) (sym r.theirs.plan_is))

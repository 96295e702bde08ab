use Rattle.std.proofs.Common.{ℕ, List, ◌+◌, length, refl, sym, subst, ap, ◌∙◌, arith}
use Rattle.dwz_graph.specs.Files.{docs_of}
use Rattle.dwz_plan.specs.declared.plan.Partial.{Partial}
use Rattle.dwz_law_layout.specs.CommonRows.{standing_beside}
use Rattle.dwz_run_files.specs.OverRun.{IsStanding}
use Rattle.dwz_run_files.proofs.OverReady.{new_over}
use Rattle.dwz_run_files.proofs.StandingThere.{room, standing_so}
use Rattle.dwz_run_files.proofs.over.new_over.Goals as goal

pub standing_common-requires-clause-room : goal.standing_common-requires-clause-room
standing_common-requires-clause-room g c =
    room c.args.graph.now c.args.prunes.now c.args.fixed.now c.requires.taken.0 c.requires.taken.1 c.requires.bytes c.placed_laws.ensures.common c.args.common.now
    c.requires.common

pub prepare_over-requires-clause-standing : goal.prepare_over-requires-clause-standing
prepare_over-requires-clause-standing g c = λ lifetimes lives. (
    let x = c.requires.taken.0 in
    let graph = c.args.graph.now in
    let s = standing_beside x in
    let b = c.in_ok-standing.standing in
    let e = c.in_ok-standing.ensures in
    let st = standing_so graph c.args.prunes.now c.args.fixed.now x c.requires.taken.1 c.requires.bytes c.placed_laws.ensures.common c.args.common.now c.requires.common b e.common e.fixed
    e.len (λ around doc means. e.index around doc means) in
    (x, st))

pub lay_over-requires-clause-works : goal.lay_over-requires-clause-works
lay_over-requires-clause-works g c = λ lifetimes lives. (
    let x = c.requires.taken.0 in
    let graph = c.args.graph.now in
    let s = standing_beside x in
    let b = c.in_ok-standing.standing in
    let e = c.in_ok-standing.ensures in
    let st = standing_so graph c.args.prunes.now c.args.fixed.now x c.requires.taken.1 c.requires.bytes c.placed_laws.ensures.common c.args.common.now c.requires.common b e.common e.fixed
    e.len (λ around doc means. e.index around doc means) in
    let r = c.in_ok-prepared.ensures x st in
    let standing = subst (λ (cs : List (List ℕ)). IsStanding s (docs_of cs) b) (sym r.contents_are) st.standing in
    (s, r.facts, r.works, standing))

pub overflow_cast-partials : goal.overflow_cast-partials
overflow_cast-partials g c =
    let x = c.requires.taken.0 in
    let graph = c.args.graph.now in
    let s = standing_beside x in
    let b = c.in_ok-standing.standing in
    let e = c.in_ok-standing.ensures in
    let st = standing_so graph c.args.prunes.now c.args.fixed.now x c.requires.taken.1 c.requires.bytes c.placed_laws.ensures.common c.args.common.now c.requires.common b e.common e.fixed
    e.len (λ around doc means. e.index around doc means) in
    let r = c.in_ok-prepared.ensures x st in
    let few = r.works.ready.few_parts in
    let long = ap (λ (ps : List Partial). length ps) c.partials.ensures in
    omega (arith, few, long)

pub returns : goal.returns
returns g c x over =
    let graph = c.args.graph.now in
    let s = standing_beside x in
    let b = c.in_ok-standing.standing in
    let e = c.in_ok-standing.ensures in
    let st = standing_so graph c.args.prunes.now c.args.fixed.now x over c.requires.bytes c.placed_laws.ensures.common c.args.common.now c.requires.common b e.common e.fixed
    e.len (λ around doc means. e.index around doc means) in
    let r = c.in_ok-prepared.ensures x st in
    let standing = subst (λ (cs : List (List ℕ)). IsStanding s (docs_of cs) b) (sym r.contents_are) st.standing in
    let made = c.in_ok-files.ensures s r.facts r.works standing in
    (refl, new_over x graph.given c.in_ok-prepared.prepared r c.in_ok-files.files.items _ made (ap (λ (ps : List Partial). length ps) c.partials.ensures))

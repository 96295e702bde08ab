use Rattle.std.proofs.Common.{ap, ◌∙◌}
use Rattle.dwz_graph.specs.Index.{Index}
use Rattle.dwz_graph.proofs.WayLemmas.{none_kept, some_kept, step_there, top_shown}
use Rattle.dwz_graph.proofs.index.Index.top_of.Goals as goal

pub returns-then-step-eq0 : goal.returns-then-step-eq0
returns-then-step-eq0 c = λ names s is found. (
    let x = c.index-step.result.now in
    let there = step_there c.args.self.now c.self.inside.steps.items c.args.entry x (ap (λ (w : Index). w.steps) c.self.view_is) c.requires c.index-step.ensures in
    none_kept x.top c.if-step-eq0.true ∙ top_shown names c.args.entry x s (is.each c.args.entry x s there found))

pub returns-else-step-eq0 : goal.returns-else-step-eq0
returns-else-step-eq0 c = λ names s is found. (
    let x = c.index-step.result.now in
    let there = step_there c.args.self.now c.self.inside.steps.items c.args.entry x (ap (λ (w : Index). w.steps) c.self.view_is) c.requires c.index-step.ensures in
    some_kept x.top c.if-step-eq0.false ∙ top_shown names c.args.entry x s (is.each c.args.entry x s there found))

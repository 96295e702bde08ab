use Rattle.std.proofs.Common.{◌<◌, length, ap, arith}
use Rattle.dwz_graph.specs.Index.{Index}
use Rattle.dwz_graph.proofs.WayLemmas.{step_there, way_done, way_on}
use Rattle.dwz_graph.proofs.index.Index.put_path.Goals as goal

pub returns-then-step-at : goal.returns-then-step-at
returns-then-step-at c = λ names s is found. (
    let x = c.index-step.result.now in
    let there = step_there c.args.self.now c.self.inside.steps.items c.loop-at.at x (ap (λ (w : Index). w.steps) c.self.view_is) c.loop-at.invariant.within c.index-step.ensures in
    way_done names c.args.self.now c.loop-at.at x c.loop-at.path.items c.args.path.now.items s is there c.if-step-at.true (c.loop-at.invariant.way names s is found))

pub loop-at-preserved : goal.loop-at-preserved
loop-at-preserved c =
    let x = c.index-step.result.now in
    let there = step_there c.args.self.now c.self.inside.steps.items c.loop-at.at x (ap (λ (w : Index). w.steps) c.self.view_is) c.loop-at.invariant.within c.index-step.ensures in
    let less = c.if-step-at.false in
    let low = c.loop-at.invariant.within in
    let within : x.up < length c.args.self.now.steps = omega arith in
    record {
      within = within;
      way = λ names s is found. way_on names c.args.self.now c.loop-at.at x c.loop-at.path.items c.push.new.self.items c.args.path.now.items s is there less c.in_ok-push.ensures.items
          (c.loop-at.invariant.way names s is found);
    }

use Rattle.std.proofs.Common.{◌≤◌, ap, arith}
use Rattle.std.proofs.lemmas.Bool.{le-leb, leb-true}
use Rattle.dwz_graph.specs.Index.{Index}
use Rattle.dwz_graph.proofs.WayLemmas.{step_there, way_ends, way_stays}
use Rattle.dwz_graph.proofs.index.Index.is_outermost.Goals as goal

pub returns : goal.returns
returns c = λ names s is found. (
    let x = c.index-step.result.now in
    let there = step_there c.args.self.now c.self.inside.steps.items c.args.entry x (ap (λ (w : Index). w.steps) c.self.view_is) c.requires c.index-step.ensures in
    let shown = is.each c.args.entry x s there found in (
      (λ yes. way_ends names c.args.entry x s shown (leb-true c.args.entry x.up yes)),
      (λ none.
          let same = way_stays names c.args.entry x s shown none in
          let low : c.args.entry ≤ x.up = omega arith in
          le-leb c.args.entry x.up low),
    ))

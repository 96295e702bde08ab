use Rattle.std.proofs.Common.{◌≡◌, ◌<◌, false, length, sym, true, ap, ◌∙◌, arith}
use Rattle.dwz_check_index.specs.Index.{CrossIndex}
use Rattle.dwz_check_index.proofs.WayLemmas.{below_less, step_there, way_done, way_on}
use Rattle.dwz_check_index.proofs.index.CrossIndex.put_path.Goals as goal

pub returns-then-not-is_below_top : goal.returns-then-not-is_below_top
returns-then-not-is_below_top c = λ names entries name shows found. (
    let x = c.index.result.now in
    let there = step_there c.args.self.now c.self.inside.steps.items c.loop-self.at x (ap (λ (w : CrossIndex). w.steps) c.self.view_is) c.loop-self.invariant.within c.index.ensures in
    let none : c.is_below_top.result ≡ false = c.if-not-is_below_top.true in
    way_done names entries c.args.self.now.steps c.loop-self.at x c.loop-self.path.items c.args.path.now.items name shows there (sym c.is_below_top.ensures ∙ none)
    (c.loop-self.invariant.way names entries name shows found))

pub loop-self-preserved : goal.loop-self-preserved
loop-self-preserved c =
    let x = c.index.result.now in
    let there = step_there c.args.self.now c.self.inside.steps.items c.loop-self.at x (ap (λ (w : CrossIndex). w.steps) c.self.view_is) c.loop-self.invariant.within c.index.ensures in
    let on : c.is_below_top.result ≡ true = c.if-not-is_below_top.false in
    let goes = sym c.is_below_top.ensures ∙ on in
    let less = below_less x c.loop-self.at goes in
    let low = c.loop-self.invariant.within in
    let within : x.up < length c.args.self.now.steps = omega arith in
    record {
      within = within;
      way = λ names entries name shows found. way_on names entries c.args.self.now.steps c.loop-self.at x c.loop-self.path.items c.push.new.self.items c.args.path.now.items name shows there goes
          c.in_ok-push.ensures.items (c.loop-self.invariant.way names entries name shows found);
    }

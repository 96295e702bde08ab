use Rattle.std.proofs.Common.{◌≡◌, ◌<◌, false, length, sym, true, ap, ◌∙◌, arith}
use Rattle.dwz_check_index.specs.Index.{CrossIndex}
use Rattle.dwz_check_index.proofs.WayLemmas.{space_less, spaces_done, spaces_on, step_there}
use Rattle.dwz_check_index.proofs.index.CrossIndex.put_spaces.Goals as goal

pub returns-then-not-is_space : goal.returns-then-not-is_space
returns-then-not-is_space c = λ names entries name shows found. (
    let x = c.index.result.now in
    let there = step_there c.args.self.now c.self.inside.steps.items c.loop-self.at x (ap (λ (w : CrossIndex). w.steps) c.self.view_is) c.loop-self.invariant.within c.index.ensures in
    let none : c.is_space.result ≡ false = c.if-not-is_space.true in
    spaces_done names entries c.args.self.now.steps c.loop-self.at x c.loop-self.spaces.items c.args.spaces.now.items name shows there (sym c.is_space.ensures ∙ none)
    (c.loop-self.invariant.way names entries name shows found))

pub loop-self-preserved : goal.loop-self-preserved
loop-self-preserved c =
    let x = c.index.result.now in
    let there = step_there c.args.self.now c.self.inside.steps.items c.loop-self.at x (ap (λ (w : CrossIndex). w.steps) c.self.view_is) c.loop-self.invariant.within c.index.ensures in
    let on : c.is_space.result ≡ true = c.if-not-is_space.false in
    let goes = sym c.is_space.ensures ∙ on in
    let less = space_less x c.loop-self.at goes in
    let low = c.loop-self.invariant.within in
    let within : x.up < length c.args.self.now.steps = omega arith in
    record {
      within = within;
      way = λ names entries name shows found. spaces_on names entries c.args.self.now.steps c.loop-self.at x c.loop-self.spaces.items c.push.new.self.items c.args.spaces.now.items name shows there goes
          c.in_ok-push.ensures.items (c.loop-self.invariant.way names entries name shows found);
    }

use Rattle.std.proofs.Common.{◌≡◌, ◌-◌, ◌++◌, ◌∷◌, [], ap, map, ◌∙◌, sym, arith}
use Rattle.std.specs.List.{range_with_len}
use Rattle.dwz_check_rows.specs.Keys.{key}
use Rattle.dwz_check_rows.proofs.KeyLemmas.{nothing_yet, pushed}
use Rattle.dwz_check_rows.proofs.keys.space_keys.Goals as goal

pub loop-node-init : goal.loop-node-init
loop-node-init c = record {
  is = c.new-keys.ensures.items ∙ sym (nothing_yet (key c.args.classes.now c.args.names.now) c.args.start);
  low = omega arith;
}

pub loop-node-preserved : goal.loop-node-preserved
loop-node-preserved c = record {
  is = pushed (key c.args.classes.now c.args.names.now) c.args.start c.loop-node.node c.loop-node.keys.items c.push.new.self.items c.loop-node.auto.node c.loop-node.invariant.is
      (c.in_ok-push.ensures.items ∙ ap (λ k. c.loop-node.keys.items ++ k ∷ []) c.key_of.ensures);
  low = let start = c.loop-node.auto.node in let end = c.loop-node-test.true in omega arith;
}

pub returns : goal.returns
returns c =
    let low = c.loop-node.invariant.low in
    let end = c.loop-node-test.false in
    let same : c.loop-node.node - c.args.start ≡ c.args.end - c.args.start = omega arith in
    c.loop-node.invariant.is ∙ ap (λ n. map (key c.args.classes.now c.args.names.now) (range_with_len c.args.start n)) same

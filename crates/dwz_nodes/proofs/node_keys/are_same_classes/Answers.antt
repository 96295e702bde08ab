use Rattle.std.proofs.Common.{◌≡◌, true, false, length, arith, refl}
use Rattle.dwz_nodes.proofs.AllKeys.{classes-same, same-classes}
use Rattle.dwz_nodes.proofs.node_keys.are_same_classes.Goals as goal

pub returns-then-classes-xs : goal.returns-then-classes-xs
returns-then-classes-xs c =
    let len : length c.args.xs.now ≡ length c.args.ys.now = let h = c.if-xs-ys.false in omega arith in
    (λ f. absurd (let t : false ≡ true = f in cc), λ e. absurd (c.if-classes-xs.true (same-classes c.args.classes.now c.args.xs.now c.args.ys.now c.loop-at.at len c.loop-at-test.true e)))

pub returns : goal.returns
returns c =
    let len : length c.args.xs.now ≡ length c.args.ys.now = let h = c.if-xs-ys.false in omega arith in
    let end = c.loop-at-test.false in
    (λ t. classes-same c.args.classes.now c.args.xs.now c.args.ys.now len (λ k l. c.loop-at.invariant k (omega arith)), λ e. refl)

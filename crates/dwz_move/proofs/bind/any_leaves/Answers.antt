use Rattle.std.proofs.Common.{sym, ◌∙◌, arith}
use Rattle.dwz_move.proofs.FormBinds.{leaves_all, leaves_next, leaves_none}
use Rattle.dwz_move.proofs.bind.any_leaves.Goals as goal

pub loop-k-init : goal.loop-k-init
loop-k-init c = λ tops unit name places has into count. leaves_all tops unit name c.args.into.now places into

pub returns-then-leaves : goal.returns-then-leaves
returns-then-leaves c = λ tops unit name places has into count. (
    let n = leaves_next tops unit name c.args.into.now places c.loop-k.k (omega (arith, c.loop-k-test.true, count)) (c.loop-k.invariant tops unit name places has into count) in
    n.here (sym (c.leaves.ensures tops unit (name n.p) has (c.at_or.ensures ∙ n.top)) ∙ c.if-leaves.true))

pub loop-k-preserved : goal.loop-k-preserved
loop-k-preserved c = λ tops unit name places has into count. (
    let n = leaves_next tops unit name c.args.into.now places c.loop-k.k (omega (arith, c.loop-k-test.true, count)) (c.loop-k.invariant tops unit name places has into count) in
    n.more (sym (c.leaves.ensures tops unit (name n.p) has (c.at_or.ensures ∙ n.top)) ∙ c.if-leaves.false))

pub returns : goal.returns
returns c = λ tops unit name places has into count.
    leaves_none tops unit name c.args.into.now places c.loop-k.k (omega (arith, c.loop-k-test.false, count)) (c.loop-k.invariant tops unit name places has into count)

use Rattle.std.proofs.Common.{◌<◌, ◌++◌, length, map, sym, ◌∙◌, arith}
use Rattle.dwz_plan.specs.Steps.{pair}
use Rattle.dwz_plan.proofs.TurnedLemmas.{turned-more, turned-none}
use Rattle.dwz_plan.proofs.users.turn_lists.Goals as goal

pub loop-number-init : goal.loop-number-init
loop-number-init c = c.new-pairs.ensures.items ∙ sym turned-none

pub loop-number-preserved : goal.loop-number-preserved
loop-number-preserved c =
    let l : c.loop-number.number < length c.args.lists.now = omega (arith, c.len-number-end.ensures) in
    c.in_ok-push_turned.ensures ∙ ((λ i. c.loop-number.invariant i ++ map (λ k. pair k c.loop-number.number) (c.get.ensures i)) ∙ sym (turned-more c.args.lists.now c.loop-number.number l))

use Rattle.std.proofs.Common.{◌∙◌, ◌++◌, [], ◌∷◌, sym, arith}
use Rattle.std.proofs.lemmas.List.FromFn.{map-range_with_len_more}
use Rattle.dwz_plan.specs.Over.{stand_over}
use Rattle.dwz_plan.proofs.over.stand_ins_over.Goals as goal

pub loop-top-preserved : goal.loop-top-preserved
loop-top-preserved c =
    c.in_ok-push.ensures.items
    ∙ ((λ i. c.loop-top.invariant i ++ c.stand_in_over.ensures i ∷ [])
    ∙ sym (map-range_with_len_more (stand_over c.args.fixed.now c.args.stand_ins.now) 0 c.loop-top.top c.loop-top.top (omega arith)))

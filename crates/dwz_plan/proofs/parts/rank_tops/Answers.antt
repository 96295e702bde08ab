use Rattle.std.proofs.Common.{sym, ◌∙◌, arith}
use Rattle.dwz_plan.proofs.HomeLemmas.{ranked-more, ranked-none}
use Rattle.dwz_plan.proofs.parts.rank_tops.Goals as goal

pub loop-top-init : goal.loop-top-init
loop-top-init c = c.new-pairs.ensures.items ∙ sym (ranked-none c.args.files_of_units.now)

pub loop-top-preserved : goal.loop-top-preserved
loop-top-preserved c =
    ranked-more c.args.files_of_units.now c.args.users.now c.loop-top.top c.get.result.now c.home_rank-rank.result c.loop-top.pairs.items c.push_ranked.new.pairs.items
    (omega (arith, c.len-top-end.ensures)) c.get.ensures c.home_rank-rank.ensures c.loop-top.invariant c.in_ok-push_ranked.ensures

use Rattle.dwz_expr.proofs.FewLemmas.{more_plain, none_plain}
use Rattle.dwz_expr.proofs.plain.plain_front.Goals as goal

pub loop-found-init : goal.loop-found-init
loop-found-init c = none_plain 1 c.args.bytes.now

pub loop-found-preserved : goal.loop-found-preserved
loop-found-preserved c =
    more_plain 1 c.args.bytes.now c.loop-found.found c.in-Some.one c.with_before-found.result c.loop-found.invariant c.in-Some.ensures c.with_before-found.ensures.end c.with_before-found.ensures.address

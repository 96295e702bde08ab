use Rattle.std.proofs.Common.{◌≡◌, length, arith}
use Rattle.dwz_layout_order.proofs.CloseLemmas.{shut}
use Rattle.dwz_layout_order.proofs.outline.close.Goals as goal

pub returns-clause-outers : goal.returns-clause-outers
returns-clause-outers c = λ before inner x is at.
    let long : c.len.result ≡ length c.args.outers.now.items = omega arith in
    shut c.args.outers.now.items before inner x c.index-outer.result.now c.args.at c.args.pinned c.len.result c.either.result is at c.index-outer.ensures long c.either.ensures

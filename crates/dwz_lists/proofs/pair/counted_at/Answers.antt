use Rattle.std.proofs.Common.{◌+◌, get_or, refl, arith}
use Rattle.dwz_lists.proofs.PairLemmas.{counted_there}
use Rattle.dwz_lists.proofs.pair.counted_at.Goals as goal

pub returns : goal.returns
returns c =
    let section = c.args.section.now in
    let at = c.args.at in
    counted_there section at (record { from = at + 1; end = at + 1 + get_or section at 0 }) (omega (arith, c.requires, c.if-at-section.false)) (omega (arith, c.if-count-ge128.false)) refl refl
    (omega (arith, c.requires, c.if-at-section.false, c.if-section-from.false))

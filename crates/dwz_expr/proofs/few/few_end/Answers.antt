use Rattle.std.proofs.Common.{◌+◌, refl, arith}
use Rattle.dwz_expr.proofs.FewLemmas.{more_few, one_few}
use Rattle.dwz_expr.proofs.few.few_end.Goals as goal

pub returns-then-bytes-at-lt128-2 : goal.returns-then-bytes-at-lt128-2
returns-then-bytes-at-lt128-2 c =
    let bytes = c.args.bytes.now in
    let at = c.args.at in
    more_few 2 bytes at (at + 1) (at + 2) refl (omega (arith, c.requires, c.if-at-count.false)) (omega (arith, c.if-bytes-at-lt128.false))
    (one_few 2 bytes (at + 1) (at + 2) (omega arith) (omega (arith, c.requires, c.if-at-count.false, c.if-at-count-2.false)) c.if-bytes-at-lt128-2.true (omega arith))

pub returns-then-bytes-at-lt128-3 : goal.returns-then-bytes-at-lt128-3
returns-then-bytes-at-lt128-3 c =
    let bytes = c.args.bytes.now in
    let at = c.args.at in
    more_few 2 bytes at (at + 1) (at + 3) refl (omega (arith, c.requires, c.if-at-count.false)) (omega (arith, c.if-bytes-at-lt128.false))
    (more_few 1 bytes (at + 1) (at + 2) (at + 3) (omega arith) (omega (arith, c.requires, c.if-at-count.false, c.if-at-count-2.false)) (omega (arith, c.if-bytes-at-lt128-2.false))
    (one_few 1 bytes (at + 2) (at + 3) (omega arith) (omega (arith, c.requires, c.if-at-count.false, c.if-at-count-2.false, c.if-at-count-3.false)) c.if-bytes-at-lt128-3.true (omega arith)))

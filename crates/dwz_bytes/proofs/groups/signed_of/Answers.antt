use Rattle.std.proofs.Common.{◌≡◌, sym, ap, ◌∙◌, false, take, arith}
use Rattle.std.specs.Prelude.{pos, negsuc}
use Rattle.std.proofs.lemmas.Result.{err_from_is_err_and}
use Rattle.dwz_bytes.specs.Reading.{sleb_at}
use Rattle.dwz_bytes.specs.Spelling.{fits_i64, signed_value}
use Rattle.dwz_bytes.proofs.LebLemmas.{leb_fails, leb_is, leb_is_wide}
use Rattle.dwz_bytes.proofs.SignedLemmas.{high_reach, low_reach, negsuc_fits, negsuc_is, negsuc_too_big, pos_fits, pos_is, pos_too_big}
use Rattle.dwz_bytes.proofs.groups.signed_of.Goals as goal
use Rattle.dwz_bytes.proofs.groups.signed_of.Goals.{then-negative, else-negative}

pub returns-in_err-groups : goal.returns-in_err-groups
unfolding sleb_at
returns-in_err-groups c =
    let p = err_from_is_err_and c.from_residual.result c.from_residual.ensures.1 in
    rw (p.1, p.2) (leb_fails signed_value fits_i64 (record { at = c.args.start; rest = c.args.bytes.now }) _ c.in_err-groups.ensures)

pub returns-then-reach : goal.returns-then-reach
unfolding sleb_at
returns-then-reach c =
    let g = c.in_ok-groups.groups in
    let front = take g.len c.args.bytes.now in
    let big : fits_i64 (signed_value front) ≡ false = elim c.if-negative.branch [
      | then-negative w ↦ ap fits_i64 (sym (high_reach c.args.bytes.now g _ c.if-negative.reach c.in_ok-groups.ensures (omega arith) w.reach-is)) ∙ negsuc_too_big c.if-negative.reach c.if-reach.true
      | else-negative w ↦ ap fits_i64 (sym (low_reach c.args.bytes.now g _ c.if-negative.reach c.in_ok-groups.ensures (omega arith) w.reach-is)) ∙ pos_too_big c.if-negative.reach c.if-reach.true
    ] in
    leb_is_wide signed_value fits_i64 (record { at = c.args.start; rest = c.args.bytes.now }) front c.in_ok-groups.ensures.read big

pub returns-then-negative-2 : goal.returns-then-negative-2
unfolding sleb_at
returns-then-negative-2 c =
    let g = c.in_ok-groups.groups in
    let is : negsuc c.if-negative.reach ≡ signed_value (take g.len c.args.bytes.now) = elim c.if-negative.branch [
      | then-negative w ↦ high_reach c.args.bytes.now g _ c.if-negative.reach c.in_ok-groups.ensures c.if-negative-2.true w.reach-is
      | else-negative w ↦ absurd (omega arith)
    ] in (
      rw (negsuc_is c.if-negative.reach c.if-reach.false) (leb_is signed_value fits_i64 (record { at = c.args.start; rest = c.args.bytes.now }) g.len (negsuc c.if-negative.reach)
          c.in_ok-groups.ensures.read c.in_ok-groups.ensures.within is (negsuc_fits c.if-negative.reach c.if-reach.false)),
      c.in_ok-groups.ensures.within,
    )

pub returns-else-negative-2 : goal.returns-else-negative-2
unfolding sleb_at
returns-else-negative-2 c =
    let g = c.in_ok-groups.groups in
    let is : pos c.if-negative.reach ≡ signed_value (take g.len c.args.bytes.now) = elim c.if-negative.branch [
      | then-negative w ↦ absurd (omega arith)
      | else-negative w ↦ low_reach c.args.bytes.now g _ c.if-negative.reach c.in_ok-groups.ensures c.if-negative-2.false w.reach-is
    ] in (
      rw (pos_is c.if-negative.reach c.if-reach.false) (leb_is signed_value fits_i64 (record { at = c.args.start; rest = c.args.bytes.now }) g.len (pos c.if-negative.reach) c.in_ok-groups.ensures.read
          c.in_ok-groups.ensures.within is (pos_fits c.if-negative.reach c.if-reach.false)),
      c.in_ok-groups.ensures.within,
    )

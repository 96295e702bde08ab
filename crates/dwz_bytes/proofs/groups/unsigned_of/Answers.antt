use Rattle.std.proofs.Common.{arith}
use Rattle.std.proofs.lemmas.Bool.{le-ltb, lt-ltb}
use Rattle.std.proofs.lemmas.Result.{err_from_is_err_and}
use Rattle.dwz_bytes.specs.Reading.{uleb_at}
use Rattle.dwz_bytes.specs.Spelling.{fits_u64, groups_value}
use Rattle.dwz_bytes.proofs.LebLemmas.{leb_fails, leb_is, leb_is_wide}
use Rattle.dwz_bytes.proofs.groups.unsigned_of.Goals as goal

pub returns-in_err-groups : goal.returns-in_err-groups
unfolding uleb_at
returns-in_err-groups c =
    let p = err_from_is_err_and c.from_residual.result c.from_residual.ensures.1 in
    rw (p.1, p.2) (leb_fails groups_value fits_u64 (record { at = c.args.start; rest = c.args.bytes.now }) _ c.in_err-groups.ensures)

pub returns-then-groups : goal.returns-then-groups
unfolding uleb_at
returns-then-groups c = leb_is_wide groups_value fits_u64 (record { at = c.args.start; rest = c.args.bytes.now }) _ c.in_ok-groups.ensures.read
    (le-ltb _ _ (omega (arith, c.in_ok-groups.ensures.value)))

pub returns : goal.returns
unfolding uleb_at
returns c = (
  leb_is groups_value fits_u64 (record { at = c.args.start; rest = c.args.bytes.now }) c.in_ok-groups.groups.len _ c.in_ok-groups.ensures.read c.in_ok-groups.ensures.within
      c.in_ok-groups.ensures.value (lt-ltb _ _ (omega arith)),
  c.in_ok-groups.ensures.within,
)

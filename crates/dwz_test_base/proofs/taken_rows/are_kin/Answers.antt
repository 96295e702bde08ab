use Rattle.std.proofs.Common.{refl, arith}
use Rattle.dwz_test_base.proofs.taken_rows.are_kin.Goals as goal

pub returns : goal.returns
returns c t = record {
  few = omega arith;
  numbers = c.if-not-are_less.ensures refl;
  images_len = c.if-images-kin.false;
  targets_len = omega arith;
  below = c.are_below.ensures t;
}

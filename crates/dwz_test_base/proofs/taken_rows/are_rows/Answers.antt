use Rattle.std.proofs.Common.{ℕ, ◌<◌, List, refl, sym, subst, arith}
use Rattle.dwz_model.specs.Lists.{In}
use Rattle.dwz_takes.specs.Takes.{AreBelow}
use Rattle.dwz_test_base.proofs.taken_rows.are_rows.Goals as goal

pub returns : goal.returns
returns c t = record {
  classes = λ k i. subst (λ (n : ℕ). k < n) c.len-tops.ensures (c.if-not-are_less.ensures refl k (subst (λ (xs : List ℕ). In k xs) (sym c.as_slice.ensures) i));
  unit_tops = subst (λ (n : ℕ). AreBelow n c.args.rows.now.unit_tops) c.len-tops.ensures (c.if-not-are_below.ensures refl);
  unit_names = c.if-not-are_below-3.ensures refl;
  part_tops = subst (λ (n : ℕ). AreBelow n c.args.rows.now.part_tops) c.len-tops.ensures (c.if-not-are_below-2.ensures refl);
  part_names = c.if-not-are_below-4.ensures refl;
  part_targets = subst (λ (n : ℕ). AreBelow n c.args.rows.now.part_targets) c.len-parts.ensures (c.are_below-3.ensures t);
  units = omega arith;
  names = omega arith;
  targets = omega arith;
  few_tops = omega arith;
  few_units = omega arith;
  few_parts = omega arith;
}

use Rattle.std.proofs.Common.{◌<◌, sym, ◌∙◌, length, arith}
use Rattle.std.proofs.lemmas.Grind.{common_steps}
use Rattle.std.proofs.Math.Nat.{pow-suc}
use Rattle.dwz_bytes.proofs.GroupLemmas.{goes_on, ends, cut_short, too_many, value_more, last_more, weight_small}
use Rattle.dwz_bytes.proofs.groups.groups_of.Goals as goal

pub overflow_add-value : goal.overflow_add-value
overflow_add-value c = let small = weight_small c.loop-i.i c.loop-i-test.true in grind (arith, common_steps, small, c.loop-i.invariant.weight)

pub overflow_mul-scale : goal.overflow_mul-scale
overflow_mul-scale c = let small = weight_small c.loop-i.i c.loop-i-test.true in omega (arith, small, c.loop-i.invariant.weight)

pub returns-then-i-bytes : goal.returns-then-i-bytes
returns-then-i-bytes c = sym c.loop-i.invariant.so_far ∙ cut_short c.args.start c.loop-i.i c.args.bytes.now c.loop-i-test.true c.if-i-bytes.true

pub returns-then-last-lt128 : goal.returns-then-last-lt128
returns-then-last-lt128 c =
    let i = c.loop-i.i in
    let bytes = c.args.bytes.now in
    let within : i < length bytes = omega arith in
    let value = value_more i bytes within in
    record {
      read = sym c.loop-i.invariant.so_far ∙ ends c.args.start i bytes c.loop-i-test.true within c.if-last-lt128.true;
      within = omega arith;
      few = omega arith;
      value = grind (arith, c.loop-i.invariant.weight, c.loop-i.invariant.value, value);
      scale = grind (arith, common_steps, c.loop-i.invariant.weight, pow-suc 128 i);
      small = grind (arith, common_steps);
      last = last_more i bytes within;
    }

pub loop-i-preserved : goal.loop-i-preserved
loop-i-preserved c =
    let i = c.loop-i.i in
    let bytes = c.args.bytes.now in
    let within : i < length bytes = omega arith in
    let value = value_more i bytes within in
    record {
      within = omega arith;
      weight = grind (arith, common_steps, pow-suc);
      small = grind (arith, common_steps);
      value = grind (arith, c.loop-i.invariant.weight, c.loop-i.invariant.value, value);
      so_far = sym (goes_on c.args.start i bytes c.loop-i-test.true within c.if-last-lt128.false) ∙ c.loop-i.invariant.so_far;
    }

pub returns : goal.returns
returns c = sym c.loop-i.invariant.so_far ∙ too_many c.args.start c.loop-i.i c.args.bytes.now c.loop-i-test.false

use Rattle.std.proofs.Common.{◌≡◌, IsTrue, arith, subst}
use Rattle.dwz_def_explain.specs.What.{IsFirstUnequal}
use Rattle.dwz_label.specs.Labels.{attr_label}
use Rattle.dwz_label_differences.proofs.AttributeLemmas.{none_unequal, one_left, one_more_same, one_unequal}
use Rattle.dwz_label_differences.proofs.Numbers.{each_init, each_next}
use Rattle.dwz_label_differences.proofs.PieceLemmas.{attr_some}
use Rattle.dwz_label_differences.proofs.attributes.unequal_attribute.Goals as goal

pub loop-i-init : goal.loop-i-init
loop-i-init c = record {
  first = each_init attr_label c.args.a.now c.after_number-a_left.result.now c.after_number-a_left.ensures;
  second = each_init attr_label c.args.b.now c.after_number-b_left.result.now c.after_number-b_left.ensures;
  same = λ xs ys r s d e. tt;
}

pub returns-then-not-are_same : goal.returns-then-not-are_same
returns-then-not-are_same c =
    let l = c.loop-i-test.true in
    let m = c.min-count.ensures in
    one_unequal c.args.a.now c.args.b.now c.count_of-a_count.result c.count_of-b_count.result c.count_of-a_count.ensures.is c.count_of-b_count.ensures.is c.loop-i.a_left.now c.loop-i.b_left.now
    c.loop-i.i c.loop-i.invariant.first c.loop-i.invariant.second c.after_attribute-a_next.result.now c.after_attribute-b_next.result.now (IsTrue c.are_same.result)
    c.after_attribute-a_next.ensures c.after_attribute-b_next.ensures (omega (arith, l, m)) (omega (arith, l, m)) c.are_same.ensures (λ is. (let no = c.if-not-are_same.true in absurd cc)) c.loop-i.invariant.same

pub loop-i-preserved : goal.loop-i-preserved
loop-i-preserved c =
    let l = c.loop-i-test.true in
    let m = c.min-count.ensures in
    record {
      first = each_next attr_label attr_some c.args.a.now c.count_of-a_count.result c.count_of-a_count.ensures.is c.loop-i.a_left.now c.after_attribute-a_next.result.now c.loop-i.i (omega (arith, l, m))
          c.loop-i.invariant.first c.after_attribute-a_next.ensures;
      second = each_next attr_label attr_some c.args.b.now c.count_of-b_count.result c.count_of-b_count.ensures.is c.loop-i.b_left.now c.after_attribute-b_next.result.now c.loop-i.i (omega (arith, l, m))
          c.loop-i.invariant.second c.after_attribute-b_next.ensures;
      same = one_more_same c.args.a.now c.args.b.now c.count_of-a_count.result c.count_of-b_count.result c.count_of-a_count.ensures.is c.count_of-b_count.ensures.is c.loop-i.a_left.now
          c.loop-i.b_left.now c.loop-i.i c.loop-i.invariant.first c.loop-i.invariant.second c.after_attribute-a_next.result.now c.after_attribute-b_next.result.now (IsTrue c.are_same.result)
          c.after_attribute-a_next.ensures c.after_attribute-b_next.ensures (omega (arith, l, m)) (omega (arith, l, m)) c.are_same.ensures c.if-not-are_same.false c.loop-i.invariant.same;
    }

pub returns-then-a_count-b_count : goal.returns-then-a_count-b_count
returns-then-a_count-b_count c =
    let l = c.loop-i-test.false in
    let u = c.loop-i.auto.i-end in
    let m = c.min-count.ensures in
    let e = c.if-a_count-b_count.true in
    none_unequal c.args.a.now c.args.b.now c.count_of-a_count.result c.count_of-b_count.result c.count_of-a_count.ensures.is c.count_of-b_count.ensures.is c.loop-i.a_left.now c.loop-i.b_left.now
    c.loop-i.i c.loop-i.invariant.first c.loop-i.invariant.second c.loop-i.invariant.same (omega (arith, l, u, m, e)) (omega (arith, l, u, m, e))

pub returns-else-a_count-b_count : goal.returns-else-a_count-b_count
returns-else-a_count-b_count c = λ xs ys r s d e. (
    let l = c.loop-i-test.false in
    let u = c.loop-i.auto.i-end in
    let m = c.min-count.ensures in
    let at : c.loop-i.i ≡ c.min-count.result = omega (arith, l, u) in
    subst (λ k. IsFirstUnequal k xs ys) at
    (one_left c.args.a.now c.args.b.now c.count_of-a_count.result c.count_of-b_count.result c.count_of-a_count.ensures.is c.count_of-b_count.ensures.is c.loop-i.a_left.now c.loop-i.b_left.now
    c.loop-i.i c.loop-i.invariant.first c.loop-i.invariant.second c.loop-i.invariant.same (omega (arith, l, u, m)) c.if-a_count-b_count.false xs ys r s d e))

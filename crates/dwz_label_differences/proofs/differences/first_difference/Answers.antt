use Rattle.std.proofs.Common.{◌≡◌, ◌+◌, suc, arith, subst}
use Rattle.dwz_label_differences.specs.Labels.{whole}
use Rattle.dwz_label_differences.proofs.DifferenceLemmas.{SameUpTo, all_passed, pair_at, up_first, up_more}
use Rattle.dwz_label_differences.proofs.Flats.{labels_at}
use Rattle.dwz_label_differences.proofs.differences.first_difference.Goals as goal

pub returns-in-Some-clause-some : goal.returns-in-Some-clause-some
returns-in-Some-clause-some c = λ x y a b few. (
    let l = c.loop-k-test.true in
    let m = c.min-k-end.ensures in
    let k = c.loop-k.k in
    let p = pair_at x y c.args.a.now c.args.b.now k (omega (arith, l, m)) (omega (arith, l, m)) a b few in
    up_first c.in-Some.difference k (whole x) (whole y) p.d p.e (c.loop-k.invariant x y a b few) p.d_there p.e_there
    (c.in-Some.ensures p.d p.e (labels_at (whole x) c.args.a.now k p.d c.entry_at-a_entry.result.now a p.d_there c.entry_at-a_entry.ensures)
    (labels_at (whole y) c.args.b.now k p.e c.entry_at-b_entry.result.now b p.e_there c.entry_at-b_entry.ensures)
    (c.children_of-a_children.ensures x p.d a p.d_there) (c.children_of-b_children.ensures y p.e b p.e_there) p.few))

pub loop-k-preserved : goal.loop-k-preserved
loop-k-preserved c = λ x y a b few. (
    let l = c.loop-k-test.true in
    let m = c.min-k-end.ensures in
    let k = c.loop-k.k in
    let next : suc k ≡ k + 1 = omega arith in
    let p = pair_at x y c.args.a.now c.args.b.now k (omega (arith, l, m)) (omega (arith, l, m)) a b few in
    subst (λ j. SameUpTo j (whole x) (whole y)) next
    (up_more k (whole x) (whole y) p.d p.e (c.loop-k.invariant x y a b few) p.d_there p.e_there
    (c.in_default.ensures p.d p.e (labels_at (whole x) c.args.a.now k p.d c.entry_at-a_entry.result.now a p.d_there c.entry_at-a_entry.ensures)
    (labels_at (whole y) c.args.b.now k p.e c.entry_at-b_entry.result.now b p.e_there c.entry_at-b_entry.ensures)
    (c.children_of-a_children.ensures x p.d a p.d_there) (c.children_of-b_children.ensures y p.e b p.e_there) p.few)))

pub returns-clause-none : goal.returns-clause-none
returns-clause-none c = λ x y a b few none. (
    let l = c.loop-k-test.false in
    let m = c.min-k-end.ensures in
    all_passed x y c.args.a.now c.args.b.now c.loop-k.k (omega (arith, l, m)) a b (c.loop-k.invariant x y a b few))

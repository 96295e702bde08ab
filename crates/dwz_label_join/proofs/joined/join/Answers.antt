use Rattle.std.proofs.Common.{◌≡◌, ℕ, length, subst, arith}
use Rattle.dwz_label_join.proofs.JoinLemmas.{NumbersTo, all_numbers, none_yet, one_more}
use Rattle.dwz_label_join.proofs.joined.join.Goals as goal

pub loop-n-init : goal.loop-n-init
loop-n-init c = record { kept = λ bytes n is. is; numbers = none_yet c.args.others.now c.args.names.now c.in_ok-numbers.numbers.items c.in_ok-numbers.ensures.items }

pub loop-n-preserved : goal.loop-n-preserved
loop-n-preserved c =
    let i = c.loop-n.invariant in
    let keeps = c.number.ensures.kept in
    record {
      kept = λ bytes n is. keeps bytes n (i.kept bytes n is);
      numbers = one_more c.args.others.now c.loop-n.names c.number.new.self c.loop-n.n c.loop-n.numbers.items c.push.new.self.items c.bytes.result.now c.in_ok-number.field-0 keeps i.numbers
          c.bytes.ensures c.in_ok-number.ensures.number c.in_ok-push.ensures.items;
    }

pub returns-clause-numbers : goal.returns-clause-numbers
returns-clause-numbers c =
    let len = c.len-n-end.ensures in
    all_numbers c.args.others.now c.loop-n.names c.loop-n.numbers.items
    (subst (λ (n : ℕ). NumbersTo c.args.others.now c.loop-n.names n c.loop-n.numbers.items) (let z : c.loop-n.n ≡ length c.args.others.now = omega arith in z) c.loop-n.invariant.numbers)

pub returns-clause-few : goal.returns-clause-few
returns-clause-few c = let many = c.loop-n.invariant.numbers.many in omega arith

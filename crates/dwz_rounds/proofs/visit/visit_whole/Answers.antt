use Rattle.std.proofs.Common.{ℕ, inl, inr, ⊎_elim, sym, subst}
use Rattle.dwz_nodes.specs.Among.{Among}
use Rattle.dwz_rounds.proofs.Marking.{one-among}
use Rattle.dwz_rounds.proofs.Visiting.{whole-there}
use Rattle.dwz_rounds.proofs.visit.visit_whole.Goals as goal

pub returns-in_ok-visit_class-clause-from : goal.returns-in_ok-visit_class-clause-from
returns-in_ok-visit_class-clause-from c = λ a h. ⊎_elim
    (λ o. inl o)
    (λ is. inr (subst (λ (n : ℕ). Among c.put.new.list.items n) (sym is) (c.in_ok-put.ensures.put.all c.args.class (one-among c.args.class))))
    (c.in_ok-visit_class.ensures.of_class.only a h)

pub returns-in_ok-visit_class-clause-whole : goal.returns-in_ok-visit_class-clause-whole
returns-in_ok-visit_class-clause-whole c =
    whole-there c.args.numbers.now c.args.ranges.now c.args.members.now c.args.visit.now.items c.visit_class.new.visit.items c.put.new.list.items c.args.wholes.now.items c.args.class
    c.requires.members
    c.in_ok-visit_class.ensures.of_class c.in_ok-put.ensures.put c.requires.whole

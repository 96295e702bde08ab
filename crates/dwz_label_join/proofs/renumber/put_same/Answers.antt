use Rattle.std.proofs.Common.{arith}
use Rattle.dwz_label_join.proofs.GroupLemmas.{no_group, same_begins, same_ends, same_more}
use Rattle.dwz_label_join.proofs.renumber.put_same.Goals as goal

pub groups-init : goal.groups-init
groups-init c = record { from = omega arith; left = λ word rest e. same_begins c.args.label.now c.args.start rest word c.args.out.now.items e }

pub groups-preserved : goal.groups-preserved
groups-preserved c = record {
  from = (let from = c.groups.invariant.from in omega arith);
  left = λ word rest e. same_more c.args.label.now c.groups.at rest word c.args.out.now.items c.groups.out.items c.push.new.self.items (c.groups.invariant.left word rest e)
      c.groups-test.true c.if-group-lt128.false c.in_ok-push.ensures.items;
}

pub returns-then-group-lt128-clause-told : goal.returns-then-group-lt128-clause-told
returns-then-group-lt128-clause-told c = λ word rest e. same_ends c.args.label.now c.groups.at rest word c.args.out.now.items c.groups.out.items c.push.new.self.items
    (c.groups.invariant.left word rest e) c.groups-test.true c.if-group-lt128.true c.in_ok-push.ensures.items

pub returns-clause-told : goal.returns-clause-told
returns-clause-told c = λ word rest e. (let h = c.groups.invariant.left word rest e in absurd (no_group c.args.label.now c.groups.at rest h.left h.stands c.groups-test.false))

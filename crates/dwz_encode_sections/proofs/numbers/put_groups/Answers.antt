use Rattle.dwz_encode_sections.proofs.OverLemmas.{groups_done, groups_step}
use Rattle.dwz_encode_sections.proofs.numbers.put_groups.Goals as goal

pub loop-left-preserved : goal.loop-left-preserved
loop-left-preserved c =
    groups_step c.args.out.now.items c.loop-left.out.items c.args.at c.args.width c.args.number c.loop-left.place c.loop-left.left c.loop-left.rest c.group.result c.loop-left-test.true
    c.group.ensures c.loop-left.invariant

pub returns : goal.returns
returns c = groups_done c.args.out.now.items c.loop-left.out.items c.args.at c.args.width c.args.number c.loop-left.place c.loop-left.left c.loop-left.rest c.loop-left-test.false
    c.loop-left.invariant

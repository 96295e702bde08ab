use Rattle.std.proofs.Common.{arith, length}
use Rattle.dwz_encode_sections.proofs.ListLemmas.{ends_at, list_done, list_step, no_operand}
use Rattle.dwz_encode_sections.proofs.location_lists.lists.Goals as goal

pub put_number-requires : goal.put_number-requires
put_number-requires c =
    let end = ends_at (length c.args.section.now) c.args.operands.now c.loop-i.i no_operand c.requires.within c.loop-i-test.true in
    let size = c.loop-i.invariant.size in
    omega (arith, end, size)

pub loop-i-preserved : goal.loop-i-preserved
loop-i-preserved c =
    list_step c.args.section.now c.args.operands.now c.args.numbers.now c.loop-i.out.items c.put_number.new.out.items c.loop-i.i no_operand c.requires.as_many c.loop-i-test.true c.put_number.ensures
    c.loop-i.invariant

pub returns : goal.returns
returns c = list_done c.args.section.now c.args.operands.now c.args.numbers.now c.loop-i.out.items c.loop-i.i c.loop-i-test.false c.loop-i.invariant

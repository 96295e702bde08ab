use Rattle.dwz_elf.proofs.OutputLemmas.{digit, digits, length_number}
use Rattle.dwz_expand_file.proofs.bytes.put_number.Goals as goal

pub loop-i-preserved : goal.loop-i-preserved
loop-i-preserved c = digit c.args.width c.loop-i.i c.loop-i.rest _ _ _ c.loop-i-test.true c.in_ok-push.ensures.items c.loop-i.invariant

pub returns-clause-bytes : goal.returns-clause-bytes
returns-clause-bytes c = digits c.args.width c.loop-i.i c.loop-i.rest _ _ c.loop-i-test.false c.loop-i.invariant

pub returns-clause-len : goal.returns-clause-len
returns-clause-len c = length_number c.args.width c.args.value _ _ (digits c.args.width c.loop-i.i c.loop-i.rest _ _ c.loop-i-test.false c.loop-i.invariant)

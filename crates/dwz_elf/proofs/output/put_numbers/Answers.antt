use Rattle.dwz_def_reading.proofs.NumberRowLemmas.{all_numbers, one_number}
use Rattle.dwz_elf.proofs.output.put_numbers.Goals as goal

pub loop-field-preserved : goal.loop-field-preserved
loop-field-preserved c = one_number c.args.fields.now c.loop-field.field-index _ _ _ _ c.loop-field-test.true c.in_ok-put_number.ensures.bytes c.loop-field.invariant

pub returns : goal.returns
returns c = all_numbers c.args.fields.now c.loop-field.field-index _ _ c.loop-field-test.false c.loop-field.invariant

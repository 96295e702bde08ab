use Rattle.dwz_elf.proofs.CalledLemmas.{is_one, none_called, not_called, not_there}
use Rattle.dwz_elf.proofs.elf.any_called.Goals as goal
use Rattle.dwz_elf.proofs.elf.any_called.Goals.{else-is_there-via-then-is_there+else-has_name, else-is_there-via-else-is_there}

pub returns-then-has_name : goal.returns-then-has_name
returns-then-has_name c = λ headers are.
    is_one c.args.table.now c.args.name.now c.args.sections.now c.loop-section.section-index _ c.loop-section-test.true headers are (c.loop-section.invariant headers are) c.is_there.result
    c.has_name.result
    c.is_there.ensures c.has_name.ensures c.if-is_there.true c.if-has_name.true

pub loop-section-preserved : goal.loop-section-preserved
loop-section-preserved c = λ headers are.
    elim c.else-is_there.branch [
      | else-is_there-via-then-is_there+else-has_name w ↦
          not_called c.args.table.now c.args.name.now c.args.sections.now c.loop-section.section-index _ c.loop-section-test.true headers are (c.loop-section.invariant headers are) w.has_name.result
          w.has_name.ensures w.if-has_name.false
      | else-is_there-via-else-is_there w ↦
          not_there c.args.table.now c.args.name.now c.args.sections.now c.loop-section.section-index _ c.loop-section-test.true headers are (c.loop-section.invariant headers are) c.is_there.result
          c.is_there.ensures w.if-is_there.false
    ]

pub returns : goal.returns
returns c = λ headers are. none_called c.args.table.now c.args.name.now c.args.sections.now c.loop-section.section-index headers c.loop-section-test.false are (c.loop-section.invariant headers are)

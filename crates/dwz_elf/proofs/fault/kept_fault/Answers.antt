use Rattle.std.proofs.Common.{sym, ◌∙◌}
use Rattle.dwz_def_reading.specs.ElfReading.{unkept_fault_for}
use Rattle.dwz_elf.specs.Manners.{manner_of}
use Rattle.dwz_elf.proofs.FaultLemmas.{none_here, none_left, some_here, there_is, there_is_none}
use Rattle.dwz_elf.proofs.fault.kept_fault.Goals as goal

pub returns-then-is_some : goal.returns-then-is_some
returns-then-is_some c =
    let found = there_is c.unkept_fault-fault.result c.is_some.result c.is_some.ensures c.if-is_some.true in
    found.1 ∙ some_here (λ before. unkept_fault_for (manner_of c.args.manner) c.args.sections.now) c.args.sections.now c.loop-section.section-index _ found.0 _ c.loop-section-test.true
    (sym c.unkept_fault-fault.ensures ∙ found.1) c.loop-section.invariant

pub loop-section-preserved : goal.loop-section-preserved
loop-section-preserved c =
    none_here (λ before. unkept_fault_for (manner_of c.args.manner) c.args.sections.now) c.args.sections.now c.loop-section.section-index _ _ c.loop-section-test.true
    (sym c.unkept_fault-fault.ensures ∙ there_is_none c.unkept_fault-fault.result c.is_some.result c.is_some.ensures c.if-is_some.false) c.loop-section.invariant

pub returns : goal.returns
returns c = none_left (λ before. unkept_fault_for (manner_of c.args.manner) c.args.sections.now) c.args.sections.now c.loop-section.section-index _ c.loop-section-test.false c.loop-section.invariant

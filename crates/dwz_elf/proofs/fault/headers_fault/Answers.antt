use Rattle.dwz_def_reading.specs.ElfReading.{header_fault}
use Rattle.dwz_elf.proofs.FaultLemmas.{none_here, none_left, right_none, some_here, wrong_fault}
use Rattle.dwz_elf.proofs.fault.headers_fault.Goals as goal

pub returns-then-is_wrong : goal.returns-then-is_wrong
returns-then-is_wrong c =
    some_here (header_fault c.args.len c.args.names) c.args.sections.now c.loop-index.index _ c.file_fault.result _ c.loop-index-test.true
    (wrong_fault c.args.len c.args.names _ _ c.is_wrong.result c.file_fault.result c.is_wrong.ensures c.if-is_wrong.true c.file_fault.ensures) c.loop-index.invariant

pub loop-index-preserved : goal.loop-index-preserved
loop-index-preserved c =
    none_here (header_fault c.args.len c.args.names) c.args.sections.now c.loop-index.index _ _ c.loop-index-test.true
    (right_none c.args.len c.args.names _ _ c.is_wrong.result c.is_wrong.ensures c.if-is_wrong.false) c.loop-index.invariant

pub returns : goal.returns
returns c = none_left (header_fault c.args.len c.args.names) c.args.sections.now c.loop-index.index _ c.loop-index-test.false c.loop-index.invariant

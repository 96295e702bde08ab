use Rattle.std.proofs.Common.{[], ap, ◌∙◌}
use Rattle.dwz_def_reading.specs.ElfLayout.{inside_fault, layout_fault}
use Rattle.dwz_def_reading.specs.ElfReading.{first_in}
use Rattle.dwz_elf.specs.Rebuilds.{changes_of}
use Rattle.dwz_elf.proofs.FaultLemmas.{none_here, none_left, some_here}
use Rattle.dwz_elf.proofs.LayoutLemmas.{inside_none, inside_some}
use Rattle.dwz_elf.proofs.layout.layout_fault.Goals as goal

pub returns-then-is_inside : goal.returns-then-is_inside
unfolding layout_fault
returns-then-is_inside c =
    some_here (inside_fault c.args.elf.now (changes_of c.args.edits.now)) c.sections-sections.result.now c.loop-index.index _ _ _ c.loop-index-test.true
    (inside_some c.args.elf.now (changes_of c.args.edits.now) _ c.loop-index.index _ c.is_inside.result c.loop-index-test.true c.is_inside.ensures c.if-is_inside.true) c.loop-index.invariant
    ∙ ap (first_in (inside_fault c.args.elf.now (changes_of c.args.edits.now)) []) c.sections-sections.ensures

pub loop-index-preserved : goal.loop-index-preserved
loop-index-preserved c =
    none_here (inside_fault c.args.elf.now (changes_of c.args.edits.now)) c.sections-sections.result.now c.loop-index.index _ _ c.loop-index-test.true
    (inside_none c.args.elf.now (changes_of c.args.edits.now) _ c.loop-index.index _ c.is_inside.result c.loop-index-test.true c.is_inside.ensures c.if-is_inside.false) c.loop-index.invariant

pub returns : goal.returns
unfolding layout_fault
returns c =
    none_left (inside_fault c.args.elf.now (changes_of c.args.edits.now)) c.sections-sections.result.now c.loop-index.index _ c.loop-index-test.false c.loop-index.invariant
    ∙ ap (first_in (inside_fault c.args.elf.now (changes_of c.args.edits.now)) []) c.sections-sections.ensures

use Rattle.dwz_def_reading.specs.ElfLayout
use Rattle.dwz_elf.specs.Rebuilds.{changes_of}
use Rattle.dwz_elf.proofs.OutputLemmas.{all_sections, one_section}
use Rattle.dwz_elf.proofs.output.put_sections.Goals as goal

pub loop-section-preserved : goal.loop-section-preserved
loop-section-preserved c =
    one_section (ElfLayout.content_at c.args.elf.now (changes_of c.args.edits.now) c.args.input.now) c.args.moved.now c.loop-section.section-index c.loop-section.end
    c.saturating_sub-gap.result _ c.content_at.result.0.now c.content_at.result.1.now _ _ _ _ _ c.loop-section-test.true c.saturating_sub-gap.ensures c.content_at.ensures
    c.in_ok-put_zeros.ensures c.in_ok-extend_from_slice.ensures.items c.in_ok-extend_from_slice-2.ensures.items c.loop-section.invariant

pub returns : goal.returns
returns c =
    all_sections (ElfLayout.content_at c.args.elf.now (changes_of c.args.edits.now) c.args.input.now) c.args.moved.now c.loop-section.section-index c.loop-section.end _ _
    c.loop-section-test.false c.loop-section.invariant

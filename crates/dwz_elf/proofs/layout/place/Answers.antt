use Rattle.std.proofs.Common.{ap, ◌∙◌}
use Rattle.std.specs.Int.{next_multiple_of}
use Rattle.dwz_def_reading.specs.ElfLayout
use Rattle.dwz_elf.specs.Rebuilds.{changes_of}
use Rattle.dwz_elf.proofs.LayoutLemmas.{all_placed, next_place, too_far, two_parts}
use Rattle.dwz_elf.proofs.layout.place.Goals as goal

pub returns-then-at-size : goal.returns-then-at-size
returns-then-at-size c =
    too_far c.args.elf.now (ElfLayout.content_at c.args.elf.now (changes_of c.args.edits.now) c.args.input.now) c.args.keep c.args.order.now c.loop-key.end c.loop-key.moved.items
    c.loop-key.key-index _ c.up-at.result _ c.loop-key.invariant c.loop-key-test.true (c.up-at.ensures ∙ ap (next_multiple_of c.loop-key.end) c.align_at.ensures.align)
    (two_parts _ _ _ c.content_at.ensures) c.if-at-size.true

pub loop-key-preserved : goal.loop-key-preserved
loop-key-preserved c =
    next_place c.args.elf.now (ElfLayout.content_at c.args.elf.now (changes_of c.args.edits.now) c.args.input.now) c.args.keep c.args.order.now c.loop-key.end c.loop-key.moved.items
    c.push.new.self.items c.loop-key.key-index _ c.up-at.result _ c.loop-key.invariant c.loop-key-test.true (c.up-at.ensures ∙ ap (next_multiple_of c.loop-key.end) c.align_at.ensures.align)
    (two_parts _ _ _ c.content_at.ensures) c.if-at-size.false c.in_ok-push.ensures.items

pub returns : goal.returns
returns c =
    all_placed c.args.elf.now (ElfLayout.content_at c.args.elf.now (changes_of c.args.edits.now) c.args.input.now) c.args.keep c.args.order.now c.loop-key.end c.loop-key.moved.items
    c.loop-key.key-index c.loop-key.invariant c.loop-key-test.false

use Rattle.std.proofs.Common.{ap, ◌∙◌}
use Rattle.dwz_elf.proofs.LayoutLemmas.{all_looked_at, one_moves, one_stays}
use Rattle.dwz_elf.proofs.layout.moving_sections.Goals.{then-is_moving+in_ok-push, else-is_moving}
use Rattle.dwz_elf.proofs.layout.moving_sections.Goals as goal

pub loop-index-preserved : goal.loop-index-preserved
loop-index-preserved c = elim c.if-is_moving.branch [
  | then-is_moving+in_ok-push w ↦
      one_moves c.args.keep c.args.sections.now c.loop-index.index _ c.is_moving.result c.loop-index.keys.items c.if-is_moving.keys.items _ c.loop-index-test.true
      c.is_moving.ensures w.if-is_moving.true (ap (λ v. v.items) w.keys-is ∙ w.in_ok-push.ensures.items) c.loop-index.invariant
  | else-is_moving w ↦
      rw w.keys-is (one_stays c.args.keep c.args.sections.now c.loop-index.index _ c.is_moving.result c.loop-index.keys.items _ c.loop-index-test.true
      c.is_moving.ensures w.if-is_moving.false c.loop-index.invariant)
]

pub returns : goal.returns
returns c = all_looked_at c.args.keep c.args.sections.now c.loop-index.index c.loop-index.keys.items _ c.loop-index-test.false c.loop-index.invariant

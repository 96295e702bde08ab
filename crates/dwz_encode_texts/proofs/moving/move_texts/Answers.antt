use Rattle.std.proofs.Common.{◌∙◌, ap, get_or, set, arith}
use Rattle.std.proofs.lemmas.List.{get_or_default}
use Rattle.std.proofs.lemmas.List.Edits.{map_over_more}
use Rattle.dwz_layout.specs.declared.known.TextAt.{TextAt}
use Rattle.dwz_layout.specs.declared.known.TextAt.TheVariants.{Own}
use Rattle.dwz_encode_texts.specs.MovedTexts.{moved_text}
use Rattle.dwz_encode_texts.proofs.moving.move_texts.Goals as goal

pub loop-text-preserved : goal.loop-text-preserved
loop-text-preserved c =
    let texts = c.loop-text.texts in
    let i = c.loop-text.text-index in
    let x = get_or texts i (Own 0) in
    ap (λ (w : TextAt). set texts i w) c.moved_text.ensures ∙ map_over_more (moved_text c.args.pruned.now) c.args.texts.now texts i x c.loop-text-test.true c.loop-text.invariant
    (get_or_default texts i (Own 0) x (omega (arith, c.loop-text.auto.texts, c.loop-text-test.true)))

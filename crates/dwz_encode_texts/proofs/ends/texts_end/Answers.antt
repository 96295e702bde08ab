use Rattle.std.proofs.Common.{◌∙◌, refl, sym}
use Rattle.dwz_graph.proofs.ValueSteps.{no_pair}
use Rattle.dwz_encode_texts.specs.Texts.{texts_end}
use Rattle.dwz_encode_texts.proofs.EndLemmas.{end_before, end_here}
use Rattle.dwz_encode_texts.proofs.ends.texts_end.Goals as goal
use Rattle.dwz_encode_texts.proofs.ends.texts_end.Goals.{then-is_text, else-is_text}

pub loop-k-init : goal.loop-k-init
unfolding texts_end
loop-k-init c = refl

pub loop-k-preserved : goal.loop-k-preserved
loop-k-preserved c = elim c.if-is_text.branch [
  | then-is_text w ↦ w.end-is ∙ end_here c.args.pairs.now c.loop-k.k no_pair c.loop-k-test.true (sym c.is_text.ensures ∙ w.if-is_text.true)
  | else-is_text w ↦ w.end-is ∙ end_before c.args.pairs.now c.loop-k.k no_pair c.loop-k-test.true c.loop-k.end (sym c.is_text.ensures ∙ w.if-is_text.false) c.loop-k.invariant
]

use Rattle.std.proofs.Common.{List, ℕ, ap, sym, ◌∙◌}
use Rattle.dwz_def_reading.specs.Texts.{text_at}
use Rattle.dwz_def_reading.specs.Meanings.{offset_of}
use Rattle.dwz_graph.specs.Resolved.{stored}
use Rattle.dwz_check_labels.proofs.AloneLemmas.{text_names, text_told}
use Rattle.dwz_check_labels.proofs.said.put_common_text.Goals as goal

pub returns : goal.returns
returns c = λ s at end v operands strs means. (
    let a = stored at end c.args.pair.now c.args.raw.now in
    let n = text_names s a v means in
    text_told s v operands c.args.out.now.items c.put_text_at.new.out.items n.text n.value
    (c.in_ok-put_text_at.ensures n.text (ap (text_at c.args.strs.now) c.offset_of.ensures.value ∙ ap (λ (w : List ℕ). text_at w (offset_of a)) (sym strs) ∙ n.stands)))

use Rattle.std.proofs.Common.{◌++◌, ◌∙◌, List, ap, sym, ℕ}
use Rattle.dwz_layout.specs.Attributes.{here_view}
use Rattle.dwz_layout.specs.Ways.{holder_view}
use Rattle.dwz_encode_texts.proofs.PairUses.{pairs_uses, row_uses}
use Rattle.dwz_encode_texts.proofs.used.put_row.Goals as goal

pub loop-pair-init : goal.loop-pair-init
loop-pair-init c =
    let k = c.args.known.now in
    let pairs = c.in-Some.field-0.pairs.now in
    ap (λ (w : List ℕ). c.args.uses.now.items ++ w) (
    (λ i. pairs_uses k c.args.row.file (holder_view c.args.here.holder) (c.firsts-next.ensures i).text pairs)
    ∙ sym (row_uses k (here_view c.args.here) c.args.row pairs c.in-Some.field-0.cursor c.in-Some.ensures.values)
    )

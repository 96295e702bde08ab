use Rattle.std.proofs.Common.{List, [], ◌∷◌, ◌++◌, sym, ap, ◌∙◌, arith}
use Rattle.dwz_groups.specs.declared.groups.Edge.{Edge}
use Rattle.dwz_layout_order.specs.Parts.{file_pair, file_pairs}
use Rattle.dwz_layout_order.proofs.PairLemmas.{pairs_more}
use Rattle.dwz_layout_order.proofs.parts.pairs_of.Goals as goal

pub loop-number-init : goal.loop-number-init
unfolding file_pairs
loop-number-init c = c.in_ok-pairs.ensures.items

pub loop-number-preserved : goal.loop-number-preserved
loop-number-preserved c =
    c.in_ok-push.ensures.items
    ∙ ap (λ (w : List Edge). w ++ file_pair c.loop-number.number c.index-partials-number.result ∷ []) c.loop-number.invariant
    ∙ sym (pairs_more c.args.partials.now c.loop-number.number c.index-partials-number.result (omega arith) c.index-partials-number.is)

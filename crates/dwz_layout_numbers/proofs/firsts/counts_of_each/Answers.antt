use Rattle.std.proofs.Common.{List, [], ◌∷◌, ◌++◌, map, take, ap, sym, ◌∙◌}
use Rattle.dwz_layout_numbers.specs.declared.firsts.PairCounts.{PairCounts}
use Rattle.dwz_layout_numbers.specs.Befores.{counts_of}
use Rattle.dwz_unit.proofs.FlatLemmas.{map_got}
use Rattle.dwz_layout_numbers.proofs.firsts.counts_of_each.Goals as goal

pub loop-number-preserved : goal.loop-number-preserved
loop-number-preserved c =
    let pairs = c.args.declarations.now.pairs in
    c.in_ok-push.ensures.items ∙ ap (λ (w : List PairCounts). w ++ c.counts_of.result ∷ []) c.loop-number.invariant
    ∙ ap (λ (x : PairCounts). map counts_of (take c.loop-number.number pairs) ++ x ∷ []) c.counts_of.ensures
    ∙ sym (map_got counts_of pairs c.loop-number.number c.pairs.result.now c.pairs.ensures)

use Rattle.std.proofs.Common.{List, [], ◌∷◌, ◌++◌, map, take, Option, ℕ, ap, sym, ◌∙◌}
use Rattle.dwz_move.specs.Weights.{pairs_weight}
use Rattle.dwz_unit.proofs.FlatLemmas.{map_got}
use Rattle.dwz_move.proofs.declared.declared_weights.Goals as goal

pub loop-number-preserved : goal.loop-number-preserved
loop-number-preserved c =
    let pairs = c.args.declarations.now.pairs in
    c.in_ok-push.ensures.items ∙ ap (λ (w : List (Option ℕ)). w ++ c.pairs_weight.result ∷ []) c.loop-number.invariant
    ∙ ap (λ (x : (Option ℕ)). map pairs_weight (take c.loop-number.number pairs) ++ x ∷ []) c.pairs_weight.ensures
    ∙ sym (map_got pairs_weight pairs c.loop-number.number c.pairs.result.now c.pairs.ensures)

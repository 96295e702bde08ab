use Rattle.std.proofs.Common.{List, [], ◌∷◌, ◌++◌, map, take, Bool, ap, sym, ◌∙◌}
use Rattle.dwz_move.specs.Bound.{pairs_bind}
use Rattle.dwz_unit.proofs.FlatLemmas.{map_got}
use Rattle.dwz_move.proofs.declared.declared_binds.Goals as goal

pub loop-number-preserved : goal.loop-number-preserved
loop-number-preserved c =
    let pairs = c.args.declarations.now.pairs in
    c.in_ok-push.ensures.items ∙ ap (λ (w : List Bool). w ++ c.pairs_bind.result ∷ []) c.loop-number.invariant
    ∙ ap (λ (x : Bool). map pairs_bind (take c.loop-number.number pairs) ++ x ∷ []) c.pairs_bind.ensures
    ∙ sym (map_got pairs_bind pairs c.loop-number.number c.pairs.result.now c.pairs.ensures)

use Rattle.std.proofs.Common.{List, [], ◌∷◌, ◌++◌, map, take, Bool, false, ap, sym, ◌∙◌}
use Rattle.std.specs.List.{list_any}
use Rattle.dwz_graph_pruning.specs.Stays.{asks}
use Rattle.dwz_unit.proofs.FlatLemmas.{map_got}
use Rattle.dwz_graph_pruning.proofs.asked.asked_by.Goals as goal

pub loop-number-preserved : goal.loop-number-preserved
loop-number-preserved c =
    let pairs = c.args.declarations.now.pairs in
    c.in_ok-push.ensures.items ∙ ap (λ (w : List Bool). w ++ c.any_asks.result ∷ []) c.loop-number.invariant
    ∙ ap (λ (x : Bool). map (list_any (asks false)) (take c.loop-number.number pairs) ++ x ∷ []) c.any_asks.ensures
    ∙ sym (map_got (list_any (asks false)) pairs c.loop-number.number c.pairs.result.now c.pairs.ensures)

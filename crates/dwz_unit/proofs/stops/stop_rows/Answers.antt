use Rattle.std.proofs.Common.{List, [], ◌∷◌, ◌++◌, map, take, ap, sym, ◌∙◌}
use Rattle.dwz_unit.specs.declared.stops.Stop.{Stop}
use Rattle.dwz_unit.specs.Stops.{stops_of}
use Rattle.dwz_unit.proofs.FlatLemmas.{map_got}
use Rattle.dwz_unit.proofs.stops.stop_rows.Goals as goal

pub loop-number-preserved : goal.loop-number-preserved
loop-number-preserved c =
    c.in_ok-push.ensures.ok ∙ ap (λ (w : List (List Stop)). w ++ c.as_slice.result.now ∷ []) c.loop-number.invariant
    ∙ ap (λ (w : List Stop). map stops_of (take c.loop-number.number c.args.decls.now) ++ w ∷ [])
    (c.as_slice.ensures.value ∙ c.in_ok-put_stops.ensures ∙ ap (λ (w : List Stop). w ++ stops_of c.get.result.now) c.clear.ensures.items)
    ∙ sym (map_got stops_of c.args.decls.now c.loop-number.number c.get.result.now c.get.ensures)

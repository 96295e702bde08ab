use Rattle.std.proofs.Common.{List, [], ◌∷◌, ◌++◌, map, take, Option, ℕ, ap, sym, ◌∙◌}
use Rattle.dwz_unit.specs.Named.{named_count}
use Rattle.dwz_unit.proofs.FlatLemmas.{map_got}
use Rattle.dwz_unit.proofs.named.named_counts.Goals as goal

pub loop-number-preserved : goal.loop-number-preserved
loop-number-preserved c =
    c.in_ok-push.ensures.items ∙ ap (λ (w : List (Option ℕ)). w ++ c.named_count.result ∷ []) c.loop-number.invariant
    ∙ ap (λ (n : Option ℕ). map named_count (take c.loop-number.number c.args.decls.now) ++ n ∷ []) c.named_count.ensures
    ∙ sym (map_got named_count c.args.decls.now c.loop-number.number c.get.result.now c.get.ensures)

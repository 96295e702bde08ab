use Rattle.std.proofs.Common.{List, [], ◌∷◌, ◌++◌, map, take, ℕ, ap, sym, ◌∙◌}
use Rattle.dwz_encode_texts.specs.Texts.{texts_end}
use Rattle.dwz_unit.proofs.FlatLemmas.{map_got}
use Rattle.dwz_encode_texts.proofs.ends.ends_of.Goals as goal

pub loop-number-preserved : goal.loop-number-preserved
loop-number-preserved c =
    let pairs = c.args.declarations.now.pairs in
    c.in_ok-push.ensures.items ∙ ap (λ (w : List ℕ). w ++ c.texts_end.result ∷ []) c.loop-number.invariant
    ∙ ap (λ (x : ℕ). map texts_end (take c.loop-number.number pairs) ++ x ∷ []) c.texts_end.ensures
    ∙ sym (map_got texts_end pairs c.loop-number.number c.pairs.result.now c.pairs.ensures)

use Rattle.std.proofs.Common.{◌++◌, ◌∷◌, ◌/◌, ◌%◌, ◌+◌, ℕ, List, [], ap, sym, ◌∙◌}
use Rattle.std.proofs.lemmas.List.{append_assoc}
use Rattle.dwz_label.specs.Labels.{number}
use Rattle.dwz_label.proofs.NumberLemmas.{number_last, number_more}
use Rattle.dwz_label_marks.proofs.pieces.put_groups.Goals as goal

pub loop-rest-preserved : goal.loop-rest-preserved
loop-rest-preserved c =
    let out = c.loop-rest.out.items in
    let rest = c.loop-rest.rest in
    let next = number (rest / 128) in
    ap (λ (w : List ℕ). w ++ next) c.in_ok-push.ensures.items
    ∙ append_assoc out ((rest % 128 + 128) ∷ []) next
    ∙ ap (λ (w : List ℕ). out ++ w) (sym (number_more rest c.loop-rest-test.true))
    ∙ c.loop-rest.invariant

pub returns : goal.returns
returns c =
    let out = c.loop-rest.out.items in
    c.in_ok-push-2.ensures.items ∙ ap (λ (w : List ℕ). out ++ w) (sym (number_last c.loop-rest.rest c.loop-rest-test.false)) ∙ c.loop-rest.invariant

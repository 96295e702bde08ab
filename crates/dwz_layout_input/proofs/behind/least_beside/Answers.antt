use Rattle.std.proofs.Common.{◌≡◌, ℕ, suc, ◌+◌, ◌-◌, List, [], ◌∷◌, ◌++◌, length, sym, ap, ◌∙◌, arith}
use Rattle.std.specs.List.{range_with_len}
use Rattle.std.proofs.lemmas.List.{append_assoc}
use Rattle.dwz_model.proofs.ListFacts.{numbers_more}
use Rattle.dwz_layout_input.proofs.behind.least_beside.Goals as goal

pub loop-top-preserved : goal.loop-top-preserved
loop-top-preserved c =
    let old : List ℕ = c.args.least.items in
    let low = c.loop-top.invariant.0 in
    let below = c.loop-top-test.true in
    let first : ℕ = length old in
    let len : ℕ = c.loop-top.top - first in
    let at : c.loop-top.top ≡ first + len = omega (arith, low) in
    let more : suc len ≡ c.loop-top.top + 1 - first = omega (arith, low) in (
      omega (arith, low),
      omega (arith, below),
      c.in_ok-push.ensures.items ∙ ap (λ (w : List ℕ). w ++ c.loop-top.top ∷ []) c.loop-top.invariant.2 ∙ append_assoc old (range_with_len first len) (c.loop-top.top ∷ [])
          ∙ ap (λ (k : ℕ). old ++ (range_with_len first len ++ k ∷ [])) at
          ∙ ap (λ (w : List ℕ). old ++ w) (sym (numbers_more first len)) ∙ ap (λ (k : ℕ). old ++ range_with_len first k) more,
    )

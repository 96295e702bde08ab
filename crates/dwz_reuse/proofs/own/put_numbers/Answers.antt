use Rattle.std.proofs.Common.{◌≡◌, ℕ, suc, ◌+◌, List, [], ◌∷◌, ◌++◌, Option, Some, map, sym, ap, ◌∙◌, arith}
use Rattle.std.proofs.lemmas.List.{append_assoc, map-append}
use Rattle.std.specs.List.{range_with_len}
use Rattle.dwz_model.proofs.ListFacts.{numbers_more}
use Rattle.dwz_reuse.proofs.own.put_numbers.Goals as goal

pub loop-k-preserved : goal.loop-k-preserved
loop-k-preserved c =
    let k = c.loop-k.k in
    let from = c.args.from in
    let old : List (Option ℕ) = c.args.own.now.items in
    let one : suc k ≡ k + 1 = omega arith in
    c.in_ok-push.ensures.items ∙ ap (λ (w : List (Option ℕ)). w ++ Some (from + k) ∷ []) c.loop-k.invariant
    ∙ append_assoc old (map Some (range_with_len from k)) (Some (from + k) ∷ [])
    ∙ ap (λ (w : List (Option ℕ)). old ++ w) (sym (map-append Some (range_with_len from k) ((from + k) ∷ [])))
    ∙ ap (λ (w : List ℕ). old ++ map Some w) (sym (numbers_more from k)) ∙ ap (λ (n : ℕ). old ++ map Some (range_with_len from n)) one

use Rattle.std.proofs.Common.{◌≡◌, ℕ, suc, ◌+◌, ◌-◌, ◌≤◌, List, [], ◌∷◌, ◌++◌, map, refl, sym, ap, ◌∙◌, inl, inr, ⊎_elim, arith}
use Rattle.std.proofs.lemmas.List.{append-nil, append_assoc, map-append}
use Rattle.std.specs.List.{range_with_len}
use Rattle.dwz_model.proofs.ListFacts.{numbers_more}
use Rattle.dwz_groups.specs.declared.groups.Edge.{Edge}
use Rattle.dwz_match.specs.Parts.{edge_to}
use Rattle.dwz_match.proofs.parts.put_tops.Goals as goal

pub loop-top-init : goal.loop-top-init
loop-top-init c =
    let none : 0 ≡ c.args.from - c.args.from = omega arith in
    (omega arith, inr refl, sym (append-nil c.args.edges.now.items) ∙ ap (λ (k : ℕ). c.args.edges.now.items ++ map (edge_to c.args.part) (range_with_len c.args.from k)) none)

pub loop-top-preserved : goal.loop-top-preserved
loop-top-preserved c =
    let old : List Edge = c.args.edges.now.items in
    let from : ℕ = c.args.from in
    let f : ℕ → Edge = edge_to c.args.part in
    let low = c.loop-top.invariant.0 in
    let below = c.loop-top-test.true in
    let len : ℕ = c.loop-top.top - from in
    let at : c.loop-top.top ≡ from + len = omega (arith, low) in
    let more : suc len ≡ c.loop-top.top + 1 - from = omega (arith, low) in (
      omega (arith, low),
      inl (omega (arith, below)),
      c.in_ok-push.ensures.items ∙ ap (λ (w : List Edge). w ++ f c.loop-top.top ∷ []) c.loop-top.invariant.2 ∙ append_assoc old (map f (range_with_len from len)) (f c.loop-top.top ∷ [])
          ∙ ap (λ (k : ℕ). old ++ (map f (range_with_len from len) ++ f k ∷ [])) at
          ∙ ap (λ (w : List Edge). old ++ w) (sym (map-append f (range_with_len from len) ((from + len) ∷ [])))
          ∙ ap (λ (w : List ℕ). old ++ map f w) (sym (numbers_more from len)) ∙ ap (λ (k : ℕ). old ++ map f (range_with_len from k)) more,
    )

pub returns : goal.returns
returns c =
    let least = c.loop-top-test.false in
    let low = c.loop-top.invariant.0 in
    let all : c.loop-top.top - c.args.from ≡ c.args.to - c.args.from =
    ⊎_elim (λ (most : c.loop-top.top ≤ c.args.to). omega (arith, most, least)) (λ (none : c.loop-top.top ≡ c.args.from). omega (arith, none, least)) c.loop-top.invariant.1 in
    c.loop-top.invariant.2 ∙ ap (λ (k : ℕ). c.args.edges.now.items ++ map (edge_to c.args.part) (range_with_len c.args.from k)) all

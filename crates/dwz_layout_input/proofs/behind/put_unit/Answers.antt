use Rattle.std.proofs.Common.{◌≡◌, ℕ, ◌+◌, ◌-◌, ◌≤◌, List, [], ◌∷◌, ◌++◌, ap, ◌∙◌, inl, ⊎_elim, arith}
use Rattle.std.specs.Prelude.{replicate}
use Rattle.std.proofs.lemmas.List.{append_assoc, replicate_more}
use Rattle.dwz_layout_input.proofs.behind.put_unit.Goals as goal

pub loop-top-preserved : goal.loop-top-preserved
loop-top-preserved c =
    let old : List ℕ = c.args.units.now.items in
    let low = c.loop-top.invariant.0 in
    let below = c.loop-top-test.true in
    let len : ℕ = c.loop-top._top - c.args.from in
    let more : len + 1 ≡ c.loop-top._top + 1 - c.args.from = omega (arith, low) in (
      omega (arith, low),
      inl (omega (arith, below)),
      c.in_ok-push.ensures.items ∙ ap (λ (w : List ℕ). w ++ c.args.unit ∷ []) c.loop-top.invariant.2 ∙ append_assoc old (replicate len c.args.unit) (c.args.unit ∷ [])
          ∙ ap (λ (w : List ℕ). old ++ w) (replicate_more len c.args.unit) ∙ ap (λ (k : ℕ). old ++ replicate k c.args.unit) more,
    )

pub returns : goal.returns
returns c =
    let least = c.loop-top-test.false in
    let low = c.loop-top.invariant.0 in
    let all : c.loop-top._top - c.args.from ≡ c.args.to - c.args.from =
    ⊎_elim (λ (most : c.loop-top._top ≤ c.args.to). omega (arith, most, least)) (λ (none : c.loop-top._top ≡ c.args.from). omega (arith, none, least)) c.loop-top.invariant.1 in
    c.loop-top.invariant.2 ∙ ap (λ (k : ℕ). c.args.units.now.items ++ replicate k c.args.unit) all

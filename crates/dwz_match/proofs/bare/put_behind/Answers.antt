use Rattle.std.proofs.Common.{◌≡◌, ℕ, List, [], ◌∷◌, ◌++◌, map, take, sym, ap, ◌∙◌, arith}
use Rattle.std.proofs.lemmas.List.{append-nil, take_all}
use Rattle.dwz_match.proofs.BareFacts.{zeroed, zeroed_next}
use Rattle.dwz_match.proofs.bare.put_behind.Goals as goal

pub loop-n-init : goal.loop-n-init
loop-n-init c = sym (append-nil c.args.bare.now)

pub loop-n-preserved : goal.loop-n-preserved
loop-n-preserved c =
    let label : List ℕ = c.get.result.now in
    let row : c.as_slice.result.now ≡ zeroed label =
    c.as_slice.ensures.value ∙ c.in_ok-extend_from_slice.ensures.items
    ∙ ap (λ (w : List ℕ). w ++ label) (c.in_ok-push.ensures.items ∙ ap (λ (w : List ℕ). w ++ 0 ∷ []) c.clear.ensures.items) in
    let below = c.loop-n-test.true in
    let all = c.len-n-end.ensures in
    c.in_ok-push-2.ensures.ok ∙ (λ i. c.loop-n.invariant i ++ row i ∷ []) ∙ ap (λ (w : List ℕ). (c.args.bare.now ++ map zeroed (take c.loop-n.n c.args.labels.now)) ++ zeroed w ∷ []) c.get.ensures
    ∙ zeroed_next c.args.bare.now c.args.labels.now c.loop-n.n (omega (arith, below, all))

pub returns : goal.returns
returns c =
    let least = c.loop-n-test.false in
    let all = c.len-n-end.ensures in
    c.loop-n.invariant ∙ ap (λ (w : List (List ℕ)). c.args.bare.now ++ map zeroed w) (take_all c.loop-n.n c.args.labels.now (omega (arith, least, all)))

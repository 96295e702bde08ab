use Rattle.std.proofs.Common.{◌≡◌, suc, ◌+◌, take, ap, ◌∙◌, arith, refl}
use Rattle.dwz_plan.specs.Gaining.{weight_of, weights_of}
use Rattle.dwz_plan.proofs.GainLemmas.{weight_next}
use Rattle.dwz_plan.proofs.gain.weight_of.Goals as goal

pub loop-top-init : goal.loop-top-init
unfolding weight_of
loop-top-init c = (refl, omega arith)

pub loop-top-preserved : goal.loop-top-preserved
loop-top-preserved c =
    let i = c.loop-top.top-index in
    let ws = weights_of c.args.rows.now in
    let one : suc i ≡ i + 1 = omega arith in
    let next = weight_next ws c.args.tops.now i (omega arith) in
    let old = c.loop-top.invariant.0 in
    let new = c.from-sum.ensures ∙ c.weight_at.ensures in
    let low = c.from-sum.ensures in
    let most = c.loop-top.invariant.1 in (
      ap (λ k. k + c.from-sum.result) old ∙ ap (λ k. weight_of ws (take i c.args.tops.now) + k) new ∙ next ∙ ap (λ k. weight_of ws (take k c.args.tops.now)) one,
      omega (arith, low, most, c.weight_at.type_inv),
    )

use Rattle.std.proofs.Common.{◌≡◌, ◌<◌, List, [], ◌∷◌, ◌++◌, ℕ, length, sym, ap, subst, ◌∙◌, arith}
use Rattle.dwz_check_index.specs.Index.{CrossIndex}
use Rattle.dwz_check_sides.proofs.SpaceSteps.{Numbered, goes_on}
use Rattle.dwz_check_sides.proofs.names.space_lists.Goals as goal

pub loop-known-preserved : goal.loop-known-preserved
loop-known-preserved c =
    let s = c.args.side.now in
    let value : c.as_slice.result.now ≡ c.loop-known.numbers.items = c.as_slice.ensures.value in
    let long = ap (λ (w : List ℕ). length w) value in
    let view = ap (λ (w : CrossIndex). length w.steps) c.index.view_is in
    let less : length c.as_slice.result.now < length s.index.now.steps =
    (let t = c.loop-known-test.true in let a = c.len.ensures in let b = c.len-count.ensures in omega (arith, t, a, b, long, view)) in
    goes_on s c.args.first c.args.known.now c.loop-known.known c.next_number.new.known c.as_slice.result.now c.push.new.self.items c.in_ok-number.number
    (subst (λ (w : List ℕ). Numbered s c.args.first c.args.known.now c.loop-known.known w) (sym value) c.loop-known.invariant) less
    (c.in_ok-push.ensures.items ∙ ap (λ (w : List ℕ). w ++ c.in_ok-number.number ∷ []) (sym value))
    c.in_ok-number.ensures.apart c.in_ok-number.ensures.kept c.in_ok-number.ensures.number

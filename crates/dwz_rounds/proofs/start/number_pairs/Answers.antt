use Rattle.std.proofs.Common.{◌≡◌, ℕ, suc, ◌+◌, ◌∷◌, [], ◌++◌, List, ap, take, ◌∙◌, sym, arith}
use Rattle.std.proofs.lemmas.List.{take_all}
use Rattle.std.specs.Prelude.{slice_index}
use Rattle.dwz_groups.proofs.MarkLemmas.{pair}
use Rattle.dwz_rounds.specs.Start.{number_pairs}
use Rattle.dwz_rounds.proofs.Starting.{none-paired, one-paired}
use Rattle.dwz_rounds.proofs.start.number_pairs.Goals as goal

pub loop-a-init : goal.loop-a-init
loop-a-init c = c.in_ok-pairs.ensures.items ∙ sym (none-paired c.args.numbers.now)

pub loop-a-preserved : goal.loop-a-preserved
loop-a-preserved c =
    let numbers : List ℕ = c.args.numbers.now in
    let a : ℕ = c.loop-a.a in
    let e : suc a ≡ a + 1 = omega arith in
    let z : a ≡ 0 + a = omega arith in
    c.in_ok-push.ensures.items
    ∙ (λ j. c.loop-a.invariant j ++ pair (slice_index numbers a) (z j) ∷ [])
    ∙ sym (one-paired 0 a numbers c.loop-a-test.true)
    ∙ ap (λ (k : ℕ). number_pairs 0 (take k numbers)) e

pub returns : goal.returns
returns c = c.loop-a.invariant ∙ ap (λ (w : List ℕ). number_pairs 0 w) (take_all c.loop-a.a c.args.numbers.now (let t = c.loop-a-test.false in omega arith))

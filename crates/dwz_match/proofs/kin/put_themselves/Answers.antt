use Rattle.std.proofs.Common.{◌≡◌, ℕ, suc, ◌+◌, ◌-◌, List, [], ◌∷◌, ◌++◌, sym, ap, ◌∙◌, arith}
use Rattle.std.proofs.lemmas.List.{append-nil, append_assoc}
use Rattle.std.specs.List.{range_with_len}
use Rattle.dwz_model.proofs.ListFacts.{numbers_more}
use Rattle.dwz_match.proofs.kin.put_themselves.Goals as goal

pub loop-number-init : goal.loop-number-init
loop-number-init c =
    let none : 0 ≡ c.args.from - c.args.from = omega arith in
    let rising = c.requires.rising in
    (omega arith, omega (arith, rising), sym (append-nil c.args.numbers.now.items) ∙ ap (λ (k : ℕ). c.args.numbers.now.items ++ range_with_len c.args.from k) none)

pub loop-number-preserved : goal.loop-number-preserved
loop-number-preserved c =
    let old : List ℕ = c.args.numbers.now.items in
    let low = c.loop-number.invariant.0 in
    let below = c.loop-number-test.true in
    let len : ℕ = c.loop-number.number - c.args.from in
    let at : c.loop-number.number ≡ c.args.from + len = omega (arith, low) in
    let more : suc len ≡ c.loop-number.number + 1 - c.args.from = omega (arith, low) in (
      omega (arith, low),
      omega (arith, below),
      c.in_ok-push.ensures.items ∙ ap (λ (w : List ℕ). w ++ c.loop-number.number ∷ []) c.loop-number.invariant.2 ∙ append_assoc old (range_with_len c.args.from len) (c.loop-number.number ∷ [])
          ∙ ap (λ (k : ℕ). old ++ (range_with_len c.args.from len ++ k ∷ [])) at ∙ ap (λ (w : List ℕ). old ++ w) (sym (numbers_more c.args.from len))
          ∙ ap (λ (k : ℕ). old ++ range_with_len c.args.from k) more,
    )

pub returns : goal.returns
returns c =
    let most = c.loop-number.invariant.1 in
    let least = c.loop-number-test.false in
    let all : c.loop-number.number ≡ c.args.to = omega (arith, most, least) in
    c.loop-number.invariant.2 ∙ ap (λ (k : ℕ). c.args.numbers.now.items ++ range_with_len c.args.from (k - c.args.from)) all

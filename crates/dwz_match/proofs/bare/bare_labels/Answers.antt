use Rattle.std.proofs.Common.{◌≡◌, ℕ, ◌+◌, List, [], ◌∷◌, ◌++◌, length, sym, ap, subst, ◌∙◌, arith}
use Rattle.std.proofs.lemmas.List.{length-append}
use Rattle.dwz_match.specs.Bare.{bare_label}
use Rattle.dwz_match.proofs.BareFacts.{AreBareTo, bare_next, label_parts}
use Rattle.dwz_match.proofs.bare.bare_labels.Goals as goal

pub loop-n-preserved : goal.loop-n-preserved
loop-n-preserved c =
    let rest : List ℕ = c.after_language.result.now in
    let row : c.as_slice.result.now ≡ 0 ∷ rest =
    c.as_slice.ensures.value ∙ c.in_ok-extend_from_slice.ensures.items
    ∙ ap (λ (w : List ℕ). w ++ rest) (c.in_ok-push.ensures.items ∙ ap (λ (w : List ℕ). w ++ 0 ∷ []) c.clear.ensures.items) in
    let len = c.loop-n.invariant.0 in
    let more = length-append c.loop-n.bare (c.as_slice.result.now ∷ []) in (
      ap (λ (w : List (List ℕ)). length w) c.in_ok-push-2.ensures.ok ∙ (let e : length (c.loop-n.bare ++ c.as_slice.result.now ∷ []) ≡ c.loop-n.n + 1 = omega (arith, more, len) in e),
      subst (AreBareTo c.args.labels.now (c.loop-n.n + 1)) (sym c.in_ok-push-2.ensures.ok)
          (bare_next c.args.labels.now c.loop-n.n c.loop-n.bare c.as_slice.result.now len
          (λ t is. row ∙ ap (λ (w : List ℕ). 0 ∷ w) (c.after_language.ensures t.language (bare_label t) (c.get.ensures ∙ is ∙ label_parts t))) c.loop-n.invariant.1),
    )

pub returns-clause-len : goal.returns-clause-len
returns-clause-len c =
    let len = c.loop-n.invariant.0 in
    let most = c.loop-n.auto.n-end in
    let least = c.loop-n-test.false in
    let all = c.len-n-end.ensures in
    omega (arith, len, most, least, all)

pub returns-clause-each : goal.returns-clause-each
returns-clause-each c n t l is =
    let least = c.loop-n-test.false in
    let all = c.len-n-end.ensures in
    c.loop-n.invariant.1 n t (omega (arith, l, least, all)) is

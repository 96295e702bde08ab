use Rattle.std.proofs.Common.{◌≡◌, ◌<◌, ◌+◌, ◌++◌, ◌∷◌, [], ℕ, List, ⊎_elim, length, length-append, ap, sym, subst, arith, ◌∙◌}
use Rattle.std.specs.Prelude.{slice_index}
use Rattle.std.proofs.Math.ListN.{length-set}
use Rattle.dwz_nodes.specs.Looks.{IsLeastBelow}
use Rattle.dwz_rounds.proofs.Finishing.{AreFirst, first-none, first-new, first-again, first-least, least-more}
use Rattle.dwz_rounds.proofs.finish.put_least.Goals as goal

pub loop-a-init : goal.loop-a-init
loop-a-init c = record {
  many = c.requires.many;
  firsts = first-none c.args.numbers.now c.args.firsts.now c.requires.none;
  len = ap (λ (l : List ℕ). length l) c.requires.least;
  each = λ b l. absurd (omega arith);
}

pub loop-a-preserved : goal.loop-a-preserved
loop-a-preserved c =
    let numbers : List ℕ = c.args.numbers.now in
    let n : ℕ = c.loop-a.a in
    let old : List ℕ = c.loop-a.firsts in
    let new : List ℕ = c.first_with.new.firsts in
    let i = c.loop-a.invariant in
    let inside : n < length numbers = c.loop-a-test.true in
    let small : slice_index numbers n < length numbers = c.requires.numbers n 0 inside in
    let firsts : AreFirst numbers (n + 1) new = ⊎_elim
    (λ h. subst (λ (l : List ℕ). AreFirst numbers (n + 1) l) (sym h.1) (first-new numbers n old c.requires.few i.many inside small i.firsts h.0))
    (λ h. subst (λ (l : List ℕ). AreFirst numbers (n + 1) l) (sym h.1) (first-again numbers n old c.requires.few i.many inside small i.firsts h.0))
    c.first_with.ensures.noted in
    let items : c.push.new.self.items ≡ c.loop-a.least.items ++ c.first_with.result ∷ [] = c.in_ok-push.ensures.items in
    record {
      many = ⊎_elim (λ h. ap (λ (l : List ℕ). length l) h.1 ∙ (length-set old (slice_index numbers n) n ∙ i.many)) (λ h. ap (λ (l : List ℕ). length l) h.1 ∙ i.many) c.first_with.ensures.noted;
      firsts = firsts;
      len = ap (λ (l : List ℕ). length l) items ∙ let e = i.len in omega (arith, length-append c.loop-a.least.items (c.first_with.result ∷ []));
      each = λ b l. subst (λ (x : List ℕ). IsLeastBelow (length numbers) (λ d. slice_index numbers b ≡ slice_index numbers d) (slice_index x b)) (sym items)
          (least-more numbers n c.first_with.result c.loop-a.least.items i.len i.each (first-least numbers n c.first_with.result new c.requires.few inside small firsts c.first_with.ensures.first) b
          l);
    }

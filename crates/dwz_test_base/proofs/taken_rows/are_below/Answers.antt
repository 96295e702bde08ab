use Rattle.std.proofs.Common.{◌≡◌, ◌⊎◌, ℕ, ◌<◌, List, sym, subst, ⊎_elim, arith}
use Rattle.dwz_model.specs.Lists.{In}
use Rattle.dwz_groups.proofs.MarkLemmas.{inside_at}
use Rattle.dwz_takes.specs.Takes.{list_at}
use Rattle.dwz_test_base.proofs.taken_rows.are_below.Goals as goal

pub loop-key-preserved : goal.loop-key-preserved
loop-key-preserved c k x l i = ⊎_elim
    (λ (low : k < c.loop-key.key). c.loop-key.invariant k x low i)
    (λ (e : c.loop-key.key ≡ k). c.are_less.ensures c.if-not-are_less.false x (subst (λ (xs : List ℕ). In x xs) (sym c.get.ensures) (subst (λ (m : ℕ). In x (list_at c.args.lists.now m)) (sym e) i)))
    (let P : Type 0 = (k < c.loop-key.key) ⊎ (c.loop-key.key ≡ k) in let r : P = grind arith in r)

pub returns : goal.returns
returns c t k x i = let low = inside_at c.args.lists.now k x i in c.loop-key.invariant k x (omega arith) i

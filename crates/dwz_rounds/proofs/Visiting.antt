-- The nodes that are looked at in a pass: those that point at pending ones, and whole classes.
use Rattle.std.proofs.Common.{◌≡◌, ℕ, ◌+◌, ◌<◌, ◌≤◌, ◌⊎◌, List, [], ◌∷◌, length, inl, inr, ⊎_elim, sym, ap, subst, ◌∙◌, arith}
use Rattle.std.specs.Prelude.{slice_index}
use mathlib.Core.Logic.{dite}
use native.Mathlib.Decide.{ℕ_discrete}
use Rattle.dwz_nodes.specs.Among.{Among}
use Rattle.dwz_rounds.specs.Marked.{ArePut}
use Rattle.dwz_rounds.specs.Members.{range_at, AreMembers}
use Rattle.dwz_rounds.specs.declared.members.Range.{Range}
use Rattle.dwz_rounds.specs.Pending.{AreOfClass, AreWithWholes}
use Rattle.dwz_rounds.proofs.Marking.{among-one, one-among}

pub class-none : (numbers members : List ℕ) (class from : ℕ) (old : List ℕ) → AreOfClass numbers members class from from old old
class-none numbers members class from old = record { only = λ a h. inl h; kept = λ a h. h; all = λ i low high. absurd (omega arith) }

module _ (numbers members : List ℕ) (class from to : ℕ) (old mid : List ℕ) (c : AreOfClass numbers members class from to old mid) where
  pub class-more : (new : List ℕ) → slice_index numbers (slice_index members to) ≡ class → ArePut mid (slice_index members to ∷ []) new → AreOfClass numbers members class from (to + 1) old new
  class-more new is q = record {
    only = λ a h. ⊎_elim (λ m. c.only a m) (λ one. inr (ap (λ (x : ℕ). slice_index numbers x) (sym (among-one (slice_index members to) a one)) ∙ is)) (q.from a h);
    kept = λ a h. q.kept a (c.kept a h);
    all = λ i low high e. dite (ℕ_discrete i to)
        (λ same. subst (λ (k : ℕ). Among new (slice_index members k)) (sym same) (q.all (slice_index members to) (one-among (slice_index members to))))
        (λ ne. q.kept (slice_index members i) (c.all i low (omega arith) e));
  }

  pub class-same : (¬ (slice_index numbers (slice_index members to) ≡ class)) → AreOfClass numbers members class from (to + 1) old mid
  class-same not = record {
    only = c.only;
    kept = c.kept;
    all = λ i low high e. dite (ℕ_discrete i to)
        (λ same. absurd (not (subst (λ (k : ℕ). slice_index numbers (slice_index members k) ≡ class) same e)))
        (λ ne. c.all i low (omega arith) e);
  }

-- a class that is taken whole is there with all its nodes
pub whole-there : (numbers : List ℕ) (ranges : List Range) (members old new wholes old_wholes : List ℕ) (class : ℕ) → AreMembers numbers ranges members
    → AreOfClass numbers members class (range_at ranges class).start (range_at ranges class).end old new
    → ArePut old_wholes (class ∷ []) wholes
    → ((a : ℕ) → a < length numbers → Among old_wholes (slice_index numbers a) → Among old a)
    → (a : ℕ) → a < length numbers → Among wholes (slice_index numbers a) → Among new a
whole-there numbers ranges members old new wholes old_wholes class m c q was a la h = ⊎_elim
    (λ o. c.kept a (was a la o))
    (λ one.
    let is : slice_index numbers a ≡ class = sym (among-one class (slice_index numbers a) one) in
    let p = m.each a la in
    let low : (range_at ranges class).start ≤ p.place = subst (λ (n : ℕ). (range_at ranges n).start ≤ p.place) is p.above in
    let high : p.place < (range_at ranges class).end = subst (λ (n : ℕ). p.place < (range_at ranges n).end) is p.below in
    subst (λ (x : ℕ). Among new x) p.is (c.all p.place low high (ap (λ (x : ℕ). slice_index numbers x) p.is ∙ is)))
    (q.from (slice_index numbers a) h)

pub with-none : (numbers old : List ℕ) → AreWithWholes numbers old old []
with-none numbers old = record { from = λ a h. inl h; kept = λ a h. h; whole = λ a l h. let n = h.1 in absurd (omega arith) }

-- what was listed before
pub with-from : (numbers first old new wholes : List ℕ) → ArePut [] first old → AreWithWholes numbers old new wholes → AreWithWholes numbers first new wholes
with-from numbers first old new wholes p w = record {
  from = λ a h. ⊎_elim (λ o. inl (⊎_elim (λ n. let l = n.1 in absurd (omega arith)) (λ f. f) (p.from a o))) (λ c. inr c) (w.from a h);
  kept = λ a h. w.kept a (p.all a h);
  whole = w.whole;
}

-- one more class is taken whole, or was, or isn't
pub with-more : (numbers first old new old_wholes wholes : List ℕ) → AreWithWholes numbers first old old_wholes
    → ((a : ℕ) → Among new a → Among old a ⊎ Among wholes (slice_index numbers a)) → ((a : ℕ) → Among old a → Among new a) → ((a : ℕ) → Among old_wholes a → Among wholes a)
    → ((a : ℕ) → a < length numbers → Among wholes (slice_index numbers a) → Among new a)
    → AreWithWholes numbers first new wholes
with-more numbers first old new old_wholes wholes w from kept kept_wholes whole = record {
  from = λ a h. ⊎_elim (λ o. ⊎_elim (λ f. inl f) (λ c. inr (kept_wholes (slice_index numbers a) c)) (w.from a o)) (λ c. inr c) (from a h);
  kept = λ a h. kept a (w.kept a h);
  whole = whole;
}

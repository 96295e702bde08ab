-- Marks and the list of what is marked grow together, and are cleared together.
use Rattle.std.proofs.Common.{◌≡◌, ℕ, ◌+◌, ◌<◌, ◌≤◌, Bool, true, false, true≢false, All, List, [], ◌∷◌, ◌++◌, length, get_or, set, inl, inr, ⊎_elim, refl, sym, ap, subst, ◌∙◌, arith, get_or-set_other}
use Rattle.std.proofs.Common.{get_or-set_same}
use Rattle.std.specs.Prelude.{slice_index_or}
use Rattle.std.proofs.Math.ListN.{length-set}
use Rattle.std.proofs.lemmas.List.{get_or_default}
use mathlib.Core.Logic.{dite}
use native.Mathlib.Decide.{ℕ_discrete}
use Rattle.dwz_nodes.specs.Among.{Among}
use Rattle.dwz_rounds.specs.Marked.{IsMarked, AreMarked, ArePut}
use Rattle.dwz_rounds.proofs.Settling.{among-push_old, among-push_new, among-push_cases}

pub among-one : (n a : ℕ) → Among (n ∷ []) a → n ≡ a
among-one n a h = let l = h.1 in let e : h.0 ≡ 0 = omega arith in sym (ap (λ (i : ℕ). get_or (n ∷ []) i 0) e) ∙ h.2

pub one-among : (n : ℕ) → Among (n ∷ []) n
one-among n = (0, omega arith, refl)

none-among : (a : ℕ) → ¬ (Among [] a)
none-among a h = let l = h.1 in absurd (omega arith)

-- one more number is marked
pub marked-more : (marks : List Bool) (list : List ℕ) (n : ℕ) → n < length marks → AreMarked marks list → AreMarked (set marks n true) (list ++ n ∷ [])
marked-more marks list n l m = record {
  inside = λ a h. ⊎_elim
      (λ o. let i = m.inside a o in (let e = length-set marks n true in let j = i.0 in omega arith, dite (ℕ_discrete a n) (λ e. at_n a e) (λ ne. get_or-set_other marks n a true true ne ∙ i.1)))
      (λ e. (let f = length-set marks n true in let g = e in omega arith, at_n a e))
      (among-push_cases list n a h);
  all = λ a k is. dite (ℕ_discrete a n)
      (λ e. subst (λ (x : ℕ). Among (list ++ n ∷ []) x) (sym e) (among-push_new list n))
      (λ ne. among-push_old list n a (m.all a (let e = length-set marks n true in omega arith) (sym (get_or-set_other marks n a true true ne) ∙ is)));
}
  where
    at_n : (a : ℕ) → a ≡ n → IsMarked (set marks n true) a
    at_n a e = ap (λ (k : ℕ). slice_index_or (set marks n true) k true) e ∙ get_or-set_same marks n true true l

pub put-more : (old xs mid new : List ℕ) (n : ℕ) → ArePut old xs mid → ArePut mid (n ∷ []) new → ArePut old (xs ++ n ∷ []) new
put-more old xs mid new n p q = record {
  from = λ a h. ⊎_elim
      (λ m. ⊎_elim (λ o. inl o) (λ x. inr (among-push_old xs n a x)) (p.from a m))
      (λ one. inr (subst (λ (k : ℕ). Among (xs ++ n ∷ []) k) (among-one n a one) (among-push_new xs n)))
      (q.from a h);
  kept = λ a o. q.kept a (p.kept a o);
  all = λ a h. ⊎_elim (λ x. q.kept a (p.all a x)) (λ e. q.all a (subst (λ (k : ℕ). Among (n ∷ []) k) (sym e) (one-among n))) (among-push_cases xs n a h);
}

pub put-none : (old : List ℕ) → ArePut old [] old
put-none old = record { from = λ a h. inl h; kept = λ a h. h; all = λ a h. absurd (none-among a h) }

pub put-again : (marks : List Bool) (list : List ℕ) (n : ℕ) → n < length marks → AreMarked marks list → IsMarked marks n → ArePut list (n ∷ []) list
put-again marks list n l m is = record { from = λ a h. inl h; kept = λ a h. h; all = λ a h. subst (λ (k : ℕ). Among list k) (among-one n a h) (m.all n l is) }

pub put-new : (list : List ℕ) (n : ℕ) → ArePut list (n ∷ []) (list ++ n ∷ [])
put-new list n = record {
  from = λ a h. ⊎_elim (λ o. inl o) (λ e. inr (subst (λ (k : ℕ). Among (n ∷ []) k) (sym e) (one-among n))) (among-push_cases list n a h);
  kept = λ a h. among-push_old list n a h;
  all = λ a h. subst (λ (k : ℕ). Among (list ++ n ∷ []) k) (among-one n a h) (among-push_new list n);
}

-- the first i numbers of the list are unmarked again, and no others are marked
pub record AreUnmarked (marks : List Bool) (list : List ℕ) (i : ℕ) : Type 0 where
  pub inside : (k : ℕ) → k < length list → get_or list k 0 < length marks
  pub left : (a : ℕ) → a < length marks → IsMarked marks a → (k : ℕ) × (i ≤ k) × (k < length list) × (get_or list k 0 ≡ a)

pub unmarked-none : (marks : List Bool) (list : List ℕ) → AreMarked marks list → AreUnmarked marks list 0
unmarked-none marks list m = record {
  inside = λ k l. (m.inside (get_or list k 0) (k, l, refl)).0;
  left = λ a l is. let h = m.all a l is in (h.0, omega arith, h.1, h.2);
}

pub unmarked-more : (marks : List Bool) (list : List ℕ) (i : ℕ) → i < length list → AreUnmarked marks list i → AreUnmarked (set marks (get_or list i 0) false) list (i + 1)
unmarked-more marks list i li u =
    let n : ℕ = get_or list i 0 in
    let ln = u.inside i li in
    record {
      inside = λ k l. let e = length-set marks n false in let j = u.inside k l in omega arith;
      left = λ a l is. dite (ℕ_discrete a n)
          (λ e. absurd (true≢false (sym is ∙ (ap (λ (k : ℕ). slice_index_or (set marks n false) k true) e ∙ get_or-set_same marks n false true ln))))
          (λ ne.
          let h = u.left a (let e = length-set marks n false in omega arith) (sym (get_or-set_other marks n a false true ne) ∙ is) in
          let other : ¬ (h.0 ≡ i) = λ e. ne (sym h.3 ∙ ap (λ (k : ℕ). get_or list k 0) e) in
          (h.0, let b = h.1 in omega arith, h.2, h.3));
    }

pub unmarked-all : (marks : List Bool) (list : List ℕ) (i : ℕ) → length list ≤ i → AreUnmarked marks list i → AreMarked marks []
unmarked-all marks list i high u = record {
  inside = λ a h. absurd (none-among a h);
  all = λ a l is. let h = u.left a l is in let x = h.1 in let y = h.2 in absurd (omega arith);
}

pub marked-inside : (marks : List Bool) (list : List ℕ) (n : ℕ) → length marks ≡ n → AreMarked marks list → All (λ a. a < n) list
marked-inside marks list n len m k d l = let h = (m.inside (get_or list k 0) (k, l, refl)).0 in subst (λ (a : ℕ). a < n) (get_or_default list k 0 d l) (omega arith)

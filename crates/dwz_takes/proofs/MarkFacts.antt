-- Marks, one number after the other of a list.
use Rattle.std.proofs.Common.{◌≡◌, ◌⊎◌, ℕ, zero, suc, ◌+◌, ◌<◌, Bool, true, false, List, [], ◌∷◌, ◌++◌, length, get_or, take, refl, sym, ap, subst, ◌∙◌, inl, inr, ⊎_elim, arith}
use Rattle.std.proofs.Math.ListN.{set}
use Rattle.std.proofs.Math.Seq.{take-suc}
use Rattle.std.proofs.lemmas.Bool.{false≢true}
use Rattle.dwz_model.specs.Lists.{In}
use Rattle.dwz_groups.specs.Spreading.{IsMarked}
use Rattle.dwz_groups.proofs.SpreadLemmas.{in_cases, in_left, in_right, set_cases, set_here, set_kept}
use Rattle.dwz_takes.specs.Steps.{AreMarked}

-- ---- one more of the list

in_one : (n x : ℕ) → In n (x ∷ []) → x ≡ n
in_one n x (inl e) = e
in_one n x (inr i) = absurd i

pub take_next : (list : List ℕ) (i : ℕ) → i < length list → take (i + 1) list ≡ take i list ++ get_or list i 0 ∷ []
take_next list i l = let e : i + 1 ≡ suc i = omega arith in ap (λ (k : ℕ). take k list) e ∙ take-suc list i 0 l

pub in_more : (list : List ℕ) (i n : ℕ) → i < length list → In n (take (i + 1) list) → In n (take i list) ⊎ (get_or list i 0 ≡ n)
in_more list i n l h = ⊎_elim (λ j. inl j) (λ j. inr (in_one n (get_or list i 0) j)) (in_cases n (take i list) (get_or list i 0 ∷ []) (subst (λ (xs : List ℕ). In n xs) (take_next list i l) h))

pub more_in : (list : List ℕ) (i n : ℕ) → i < length list → In n (take i list) ⊎ (get_or list i 0 ≡ n) → In n (take (i + 1) list)
more_in list i n l h = subst (λ (xs : List ℕ). In n xs) (sym (take_next list i l)) (⊎_elim (λ j. in_left n (take i list) _ j) (λ e. in_right n (take i list) (get_or list i 0 ∷ []) (inl e)) h)

-- what holds of those so far, and of the next
pub each_next : (P : ℕ → Type 0) (list : List ℕ) (i : ℕ) → i < length list → ((n : ℕ) → In n (take i list) → P n) → P (get_or list i 0) → (n : ℕ) → In n (take (i + 1) list) → P n
each_next P list i l h here n is = ⊎_elim (λ j. h n j) (λ (e : get_or list i 0 ≡ n). subst P e here) (in_more list i n l is)

-- ---- one mark

pub mark_next : (list : List ℕ) (i : ℕ) (flags : List Bool) → i < length list → get_or list i 0 < length flags → AreMarked (take i list) flags → AreMarked (take (i + 1) list) (set flags (get_or list i 0) true)
mark_next list i flags l low h n =
    let x = get_or list i 0 in (
      λ m. more_in list i n l (⊎_elim (λ (j : IsMarked flags n). inl ((h n).0 j)) (λ (e : x ≡ n). inr e) (set_cases flags x n low m)),
      λ is. ⊎_elim (λ (j : In n (take i list)). set_kept flags x n ((h n).1 j)) (λ (e : x ≡ n). subst (λ (k : ℕ). IsMarked (set flags x true) k) e (set_here flags x low)) (in_more list i n l is),
    )

-- what is marked where one mark was taken off
pub unset_from : (flags : List Bool) (x n : ℕ) → x < length flags → IsMarked (set flags x false) n → IsMarked flags n × (x ≡ n → ⊥)
unset_from [] x n l h = absurd (omega arith)
unset_from (b ∷ flags) zero zero l h = absurd (false≢true h)
unset_from (b ∷ flags) zero (suc n) l h = (h, λ e. omega (arith, e))
unset_from (b ∷ flags) (suc x) zero l h = (h, λ e. omega (arith, e))
unset_from (b ∷ flags) (suc x) (suc n) l h = let r = unset_from flags x n (omega arith) h in (r.0, λ e. r.1 (let same : x ≡ n = omega (arith, e) in same))

pub unset_kept : (flags : List Bool) (x n : ℕ) → IsMarked flags n → IsMarked (set flags x false) n ⊎ (x ≡ n)
unset_kept [] x n h = absurd (false≢true h)
unset_kept (b ∷ flags) zero zero h = inr refl
unset_kept (b ∷ flags) zero (suc n) h = inl h
unset_kept (b ∷ flags) (suc x) zero h = inl h
unset_kept (b ∷ flags) (suc x) (suc n) h = ⊎_elim (λ j. inl j) (λ e. inr (ap suc e)) (unset_kept flags x n h)

-- what is still marked was, and isn't of the list so far
abbrev pub AreLeft : List ℕ → List Bool → List Bool → Type 0
AreLeft list old new = (n : ℕ) → IsMarked new n → IsMarked old n × (In n list → ⊥)

pub clear_next : (list : List ℕ) (i : ℕ) (old flags : List Bool) → i < length list → get_or list i 0 < length flags → AreLeft (take i list) old flags → AreLeft (take (i + 1) list) old (set flags (get_or list i 0) false)
clear_next list i old flags l low h n m =
    let x = get_or list i 0 in
    let r = unset_from flags x n low m in
    let s = h n r.0 in
    (s.0, λ is. ⊎_elim s.1 r.1 (in_more list i n l is))

-- One mark after another.
use Rattle.std.proofs.Common.{◌≡◌, ◌↔◌, ◌⊎◌, ℕ, zero, suc, ◌+◌, ◌<◌, ◌≤◌, Bool, true, false, List, [], ◌∷◌, ◌++◌, Option, Some, None, length, take, get_or, refl, sym, ap, subst, ◌∙◌, inl, inr, ⊎_elim}
use Rattle.std.proofs.Common.{arith, if◌then◌else◌}
use Rattle.std.proofs.Math.ListN.{set}
use Rattle.std.proofs.lemmas.List.{length-set, take_all}
use Rattle.dwz_def_reading.specs.Lists.{In}
use Rattle.dwz_def_reading.proofs.ListFacts.{in_cases, in_left, in_right}
use Rattle.dwz_def_reading.specs.declared.exprs.Operand.{Operand}
use Rattle.dwz_groups.specs.Spreading.{IsMarked}
use Rattle.dwz_groups.proofs.SpreadLemmas.{set_cases, set_here, set_kept}
use Rattle.dwz_move.specs.Marked.{Marks, MarksIf, asked_tops, if_asked, is_asked, later_tops, next_top}

pub marks_nothing : (Is : ℕ → Type 0) (old : List Bool) → ((n : ℕ) → Is n → ⊥) → MarksIf Is old old
marks_nothing Is old none = record { len = refl; each = λ n l. (λ m. inl m, λ h. ⊎_elim (λ m. m) (λ i. absurd (none n i)) h) }

pub marks_both : (Is Then All : ℕ → Type 0) (a b c : List Bool) → ((n : ℕ) → All n ↔ (Is n ⊎ Then n)) → MarksIf Is a b → MarksIf Then b c → MarksIf All a c
marks_both Is Then All a b c all x y = record {
  len = y.len ∙ x.len;
  each = λ n l. (
      let m : n < length b = (let e = x.len in omega arith) in
      let first = x.each n l in
      let second = y.each n m in (
        λ h. ⊎_elim (λ k. ⊎_elim (λ o. inl o) (λ i. inr ((all n).1 (inl i))) (first.0 k)) (λ i. inr ((all n).1 (inr i))) (second.0 h),
        λ h. ⊎_elim (λ o. second.1 (inl (first.1 (inl o)))) (λ i. ⊎_elim (λ p. second.1 (inl (first.1 (inr p)))) (λ q. second.1 (inr q)) ((all n).0 i)) h,
      ));
}

some_is : (m n : ℕ) → Some m ≡ Some n → m ≡ n
some_is m n e = cc

pub marks_set : (marks : List Bool) (x : ℕ) → x < length marks → Marks (Some x ∷ []) marks (set marks x true)
marks_set marks x l = record {
  len = length-set marks x true;
  each = λ n low. (
    λ h. ⊎_elim (λ o. inl o) (λ e. inr (inl (ap (λ (k : ℕ). Some k) e))) (set_cases marks x n l h),
    λ h. ⊎_elim (λ o. set_kept marks x n o) (λ (i : In (Some n) (Some x ∷ [])). ⊎_elim (λ e. subst (λ (k : ℕ). IsMarked (set marks x true) k) (some_is x n e) (set_here marks x l)) (λ no. absurd no) i)
        h,
  );
}

pub marks_outside : (marks : List Bool) (x : ℕ) → length marks ≤ x → Marks (Some x ∷ []) marks marks
marks_outside marks x l = record {
  len = refl;
  each = λ n low. (
    λ h. inl h,
    λ h. ⊎_elim (λ o. o) (λ (i : In (Some n) (Some x ∷ [])). ⊎_elim (λ e. absurd (let s = some_is x n e in omega arith)) (λ no. absurd no) i) h,
  );
}

pub marks_none : (marks : List Bool) → Marks (None ∷ []) marks marks
marks_none marks = marks_nothing (λ n. In (Some n) (None ∷ [])) marks (λ n i. ⊎_elim (λ e. cc) (λ no. no) i)

pub marks_append : (xs ys : List (Option ℕ)) (a b c : List Bool) → Marks xs a b → Marks ys b c → Marks (xs ++ ys) a c
marks_append xs ys a b c x y = marks_both (λ n. In (Some n) xs) (λ n. In (Some n) ys) (λ n. In (Some n) (xs ++ ys)) a b c
    (λ n. (in_cases (Some n) xs ys, λ h. ⊎_elim (in_left (Some n) xs ys) (in_right (Some n) xs ys) h)) x y

-- ---- operands, one after the other

at_next : (into : List (Option ℕ)) → next_top into ≡ get_or into 0 None
at_next [] = refl
at_next (t ∷ into) = refl

at_later : (into : List (Option ℕ)) (k : ℕ) → get_or (later_tops into) k None ≡ get_or into (suc k) None
at_later [] k = refl
at_later (t ∷ into) k = refl

asked_step : (b : Bool) (t : Option ℕ) (xs ys : List (Option ℕ)) → (if b then t ∷ (xs ++ ys) else xs ++ ys) ≡ (if b then t ∷ xs else xs) ++ ys
asked_step true t xs ys = refl
asked_step false t xs ys = refl

asked_more : (u : Bool) (os : List Operand) (into : List (Option ℕ)) (k : ℕ) (d : Operand) → k < length os → asked_tops u (take (suc k) os) into ≡ asked_tops u (take k os) into
    ++ if_asked (is_asked u (get_or os k d)) (get_or into k None)
asked_more u [] into k d l = absurd (omega arith)
asked_more u (o ∷ os) into zero d l = ap (if_asked (is_asked u o)) (at_next into)
asked_more u (o ∷ os) into (suc k) d l =
    ap (λ (ts : List (Option ℕ)). if is_asked u o then next_top into ∷ ts else ts)
    (asked_more u os (later_tops into) k d (omega arith) ∙ ap (λ (t : Option ℕ). asked_tops u (take k os) (later_tops into) ++ if_asked (is_asked u (get_or os k d)) t) (at_later into k))
    ∙ asked_step (is_asked u o) (next_top into) (asked_tops u (take k os) (later_tops into)) (if_asked (is_asked u (get_or os k d)) (get_or into (suc k) None))

pub asked_next : (u : Bool) (os : List Operand) (into : List (Option ℕ)) (k : ℕ) (d : Operand) (old now new : List Bool) (b : Bool) (top : Option ℕ) → k < length os → b ≡ is_asked u (get_or os k d)
    → top ≡ get_or into k None
    → Marks (asked_tops u (take k os) into) old now → Marks (if_asked b top) now new → Marks (asked_tops u (take (k + 1) os) into) old new
asked_next u os into k d old now new b top l f e m n =
    let one : suc k ≡ k + 1 = omega arith in
    subst (λ (ts : List (Option ℕ)). Marks ts old new) ((λ i. asked_tops u (take k os) into ++ if_asked (f i) (e i)) ∙ sym (asked_more u os into k d l)
    ∙ ap (λ (j : ℕ). asked_tops u (take j os) into) one)
    (marks_append (asked_tops u (take k os) into) (if_asked b top) old now new m n)

pub asked_all : (u : Bool) (os : List Operand) (into : List (Option ℕ)) (k : ℕ) (old now : List Bool) → length os ≤ k → Marks (asked_tops u (take k os) into) old now
    → Marks (asked_tops u os into) old now
asked_all u os into k old now le m = subst (λ (ps : List Operand). Marks (asked_tops u ps into) old now) (take_all k os le) m

pub marks_empty : (old : List Bool) → Marks [] old old
marks_empty old = marks_nothing (λ n. In (Some n) []) old (λ n i. i)

pub marks_as : (Is Other : ℕ → Type 0) (old new : List Bool) → ((n : ℕ) → Other n ↔ Is n) → MarksIf Is old new → MarksIf Other old new
marks_as Is Other old new same m = record {
  len = m.len;
  each = λ n l. (
    λ h. ⊎_elim (λ o. inl o) (λ i. inr ((same n).1 i)) ((m.each n l).0 h),
    λ h. ⊎_elim (λ o. (m.each n l).1 (inl o)) (λ i. (m.each n l).1 (inr ((same n).0 i))) h,
  );
}

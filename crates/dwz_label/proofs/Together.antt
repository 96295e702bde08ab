-- Rows in order: those under one key stand together, and the first of them has the least number.
use Rattle.std.proofs.Common.{◌≡◌, ℕ, suc, ◌-◌, ◌<◌, ◌≤◌, Bool, true, false, true≢false, Ordering, Less, Equal, Greater, nat_cmp, is_lt, List, length, get_or, refl, sym, ap, subst, ◌∙◌, ⊎_elim, arith}
use Rattle.std.specs.Prelude.{Contains}
use Rattle.std.specs.Cmp.{IsTotalOrder}
use Rattle.std.specs.List.Sorted.{IsSorted}
use Rattle.std.specs.Ordering.{is_ne, ordering_then}
use Rattle.std.proofs.lemmas.Bool.{cases_lt}
use Rattle.std.proofs.lemmas.Cmp.{alike_right, nat_cmp_total, on_total, then_total, tied_back, tied_itself}
use Rattle.std.proofs.lemmas.List.{get_or_default}
use Rattle.std.proofs.lemmas.List.Sorted.{ranks_by, sorted_far}
use Rattle.dwz_nodes.proofs.Orders.{both_equal, first_low, number_low, second_low}
use Rattle.dwz_label.specs.declared.equal.Keyed.{Keyed}
use Rattle.dwz_label.specs.Keyed.{IsLeastUnder, IsNewKey, Order}

module _ {K : Type 0} where
  pub contains_at : (rows : List (Keyed K)) (i : ℕ) (d : Keyed K) → i < length rows → Contains rows (get_or rows i d)
  contains_at rows i d l = (i, l, get_or_default rows i (get_or rows i d) d l)

  pub found_at : (rows : List (Keyed K)) (r d : Keyed K) → (c : Contains rows r) → get_or rows c.0 d ≡ r
  found_at rows r d c = get_or_default rows c.0 d r c.1 ∙ c.2

module _ {K : Type 0} (cmp : Order K) (total : IsTotalOrder cmp) where
  abbrev pub row_cmp : Order (Keyed K)
  row_cmp a b = ordering_then (cmp a.key b.key) (nat_cmp a.number b.number)

  row_total : IsTotalOrder row_cmp
  row_total = then_total (on_total (λ r. r.key) total) (on_total (λ r. r.number) nat_cmp_total)

  -- under a key that is as high
  pub least_again : (rows : List (Keyed K)) (x y : K) (m : ℕ) → cmp x y ≡ Equal → IsLeastUnder cmp rows x m → IsLeastUnder cmp rows y m
  least_again rows x y m e h = record {
    row = h.row;
    there = h.there;
    under = sym (total.congr x y h.row.key e) ∙ h.under;
    number = h.number;
    least = λ r c f. h.least r c (total.congr x y r.key e ∙ f);
  }

  module _ (rows : List (Keyed K)) (up : IsSorted row_cmp rows) (d : Keyed K) where
    abbrev at : ℕ → Keyed K
    at i = get_or rows i d

    far : (i j : ℕ) → i ≤ j → j < length rows → is_lt (row_cmp (at j) (at i)) ≡ false
    far i j le l = sorted_far (λ x y. is_lt (row_cmp x y)) (ranks_by row_total (λ r. r)) rows up i j d le l

    between : (j k i : ℕ) → j ≤ k → k ≤ i → i < length rows → cmp (at j).key (at i).key ≡ Equal → cmp (at k).key (at i).key ≡ Equal
    between j k i a b l e =
        let low = first_low (cmp (at k).key (at j).key) (nat_cmp (at k).number (at j).number) (far j k a (omega arith)) in
        let high = first_low (cmp (at i).key (at k).key) (nat_cmp (at i).number (at k).number) (far k i b l) in
        both_equal (cmp (at k).key (at i).key)
        (ap is_lt (sym (alike_right total (at j).key (at i).key (at k).key e)) ∙ low)
        (ap is_lt (sym (total.antisymm (at i).key (at k).key)) ∙ high)

    rising : (i j : ℕ) → i ≤ j → j < length rows → cmp (at i).key (at j).key ≡ Equal → (at i).number ≤ (at j).number
    rising i j le l e = number_low (at j).number (at i).number
        (second_low (cmp (at j).key (at i).key) (nat_cmp (at j).number (at i).number) (tied_back total (at i).key (at j).key e) (far i j le l))

    -- where the row before is under another key
    pub least_here : (i : ℕ) → i < length rows → ((j : ℕ) → i ≡ suc j → cmp (at j).key (at i).key ≡ Equal → ⊥) → IsLeastUnder cmp rows (at i).key (at i).number
    least_here i l new = record {
      row = at i;
      there = contains_at rows i d l;
      under = tied_itself total (at i).key;
      number = refl;
      least = λ r c e. (
          let k = c.0 in
          let is : at k ≡ r = found_at rows r d c in
          let tied : cmp (at i).key (at k).key ≡ Equal = ap (λ (s : Keyed K). cmp (at i).key s.key) is ∙ e in
          let up_to : (at i).number ≤ (at k).number = ⊎_elim
          (λ (lt : k < i). absurd (new (i - 1) (omega arith) (between k (i - 1) i (omega arith) (omega arith) l (tied_back total (at i).key (at k).key tied))))
          (λ (ge : i ≤ k). rising i k ge c.1 tied)
          (cases_lt k i) in
          subst (λ (s : Keyed K). (at i).number ≤ s.number) is up_to);
    }

-- ---- whether a row is under another key than the one before

ne_not : (o : Ordering) → o ≡ Equal → is_ne o ≡ true → ⊥
ne_not o e t = true≢false (sym t ∙ ap is_ne e)

equal_if : (o : Ordering) → is_ne o ≡ false → o ≡ Equal
equal_if Less e = absurd (true≢false e)
equal_if Equal e = refl
equal_if Greater e = absurd (true≢false e)

pub new_tells : {K : Type 0} (cmp : Order K) (rows : List (Keyed K)) (at : ℕ) (o : Ordering) (b : Bool) (r s : Keyed K) → at < length rows → (at ≡ 0 → ⊥)
    → o ≡ cmp (get_or rows (at - 1) r).key (get_or rows at s).key → b ≡ is_ne o → IsNewKey cmp rows b at
new_tells {K} cmp rows at o b r s l some is b_is = record {
  new = λ e j next d tied. ne_not o (told j next d ∙ tied) (sym b_is ∙ e);
  again = λ e. (at - 1, omega arith, λ d. sym (told (at - 1) (omega arith) d) ∙ equal_if o (sym b_is ∙ e));
}
  where
    told : (j : ℕ) → at ≡ suc j → (d : Keyed K) → o ≡ cmp (get_or rows j d).key (get_or rows at d).key
    told j next d =
        let before : at - 1 ≡ j = omega arith in
        is
        ∙ (λ i. cmp (get_or_default rows (at - 1) r d (omega arith) i).key (get_or_default rows at s d l i).key)
        ∙ ap (λ (k : ℕ). cmp (get_or rows k d).key (get_or rows at d).key) before

-- The least number under each key, written row by row: a row is under the key of the row before it, or its own number is the least.
use Rattle.std.proofs.Common.{◌≡◌, ℕ, ◌+◌, ◌-◌, ◌<◌, Bool, true, false, List, length, get_or, refl, sym, ap, subst, ◌∙◌, ⊎_elim, arith, get_or-set_other, get_or-set_same}
use Rattle.std.specs.Prelude.{Contains, IsPermutation, slice_index}
use Rattle.std.specs.Cmp.{IsTotalOrder}
use Rattle.std.specs.List.Sorted.{IsSorted}
use Rattle.std.proofs.lemmas.List.Sorted.{Contains-permutation, IsPermutation-sym}
use Rattle.std.proofs.Math.ListN.{length-set, set}
use Rattle.dwz_label.specs.declared.equal.Keyed.{Keyed}
use Rattle.dwz_label.specs.Keyed.{AreOneKey, AreLeastPut, ArePutTo, IsLeastUnder, IsNewKey, Order}
use Rattle.dwz_label.proofs.Together.{contains_at, found_at, least_again, least_here, row_cmp}
use mathlib.Core.Logic.{dite}
use native.Mathlib.Decide.{ℕ_discrete}

pub put_none : {K : Type 0} (cmp : Order K) (rows : List (Keyed K)) (old : List ℕ) (first : ℕ) → ArePutTo cmp rows old 0 old first
put_none cmp rows old first = record { len = refl; put = λ i d l. absurd (omega arith); last = λ d l. absurd (omega arith); other = λ n none. refl }

module _ {K : Type 0} (cmp : Order K) (total : IsTotalOrder cmp) (rows : List (Keyed K)) (up : IsSorted (row_cmp cmp total) rows) (one : AreOneKey cmp rows)
    (n first : ℕ) (old new : List ℕ) (inside : n < length rows) (so_far : ArePutTo cmp rows old n new first) where
  -- the number that is written at the next row
  pub next_new : (b : Bool) → IsNewKey cmp rows b n → b ≡ true → (d : Keyed K) → IsLeastUnder cmp rows (get_or rows n d).key (get_or rows n d).number
  next_new b is e d = least_here cmp total rows up d n inside (λ j s. is.new e j s d)

  pub next_again : (b : Bool) → IsNewKey cmp rows b n → b ≡ false → (d : Keyed K) → IsLeastUnder cmp rows (get_or rows n d).key first
  next_again b is e d =
      let a = is.again e in
      let s = a.1 in
      let here : n - 1 ≡ a.0 = omega arith in
      least_again cmp total rows (get_or rows a.0 d).key (get_or rows n d).key first (a.2 d)
      (subst (λ (j : ℕ). IsLeastUnder cmp rows (get_or rows j d).key first) here (so_far.last d (omega arith)))

  module _ (next : ℕ) (row : Keyed K) (is : (d : Keyed K) → get_or rows n d ≡ row) (least : IsLeastUnder cmp rows row.key next) (room : row.number < length new) where
    there : Contains rows row
    there = (n, inside, is row)

    put_at : (i : ℕ) (d : Keyed K) → i < n + 1 → IsLeastUnder cmp rows (get_or rows i d).key (get_or (set new row.number next) (get_or rows i d).number 0)
    put_at i d l = dite (ℕ_discrete (get_or rows i d).number row.number)
        (λ e.
        let same = least_again cmp total rows row.key (get_or rows i d).key next (one row (get_or rows i d) there (contains_at rows i d (omega arith)) (sym e)) least in
        let written : next ≡ get_or (set new row.number next) (get_or rows i d).number 0 =
        sym (get_or-set_same new row.number next 0 room) ∙ ap (λ (k : ℕ). get_or (set new row.number next) k 0) (sym e) in
        subst (λ (m : ℕ). IsLeastUnder cmp rows (get_or rows i d).key m) written same)
        (λ ne.
        let before : i < n = ⊎_elim (λ (lt : i < n). lt) (λ (e : i ≡ n). absurd (ne (ap (λ (k : ℕ). (get_or rows k d).number) e ∙ ap (λ (r : Keyed K). r.number) (is d)))) (grind arith) in
        subst (λ (m : ℕ). IsLeastUnder cmp rows (get_or rows i d).key m) (sym (get_or-set_other new row.number (get_or rows i d).number next 0 ne)) (so_far.put i d before))

    pub put_more : ArePutTo cmp rows old (n + 1) (set new row.number next) next
    put_more = record {
      len = length-set new row.number next ∙ so_far.len;
      put = put_at;
      last = λ d l. (
          let same : n ≡ n + 1 - 1 = omega arith in
          let own = subst (λ (r : Keyed K). IsLeastUnder cmp rows r.key next) (sym (is d)) least in
          subst (λ (i : ℕ). IsLeastUnder cmp rows (get_or rows i d).key next) same own);
      other = λ m none.
          get_or-set_other new row.number m next 0 (λ e. none n row (omega arith) (ap (λ (r : Keyed K). r.number) (is row) ∙ sym e))
          ∙ so_far.other m (λ i d l. none i d (omega arith));
    }

-- ---- of rows in another order

module _ {K : Type 0} (cmp : Order K) (xs ys : List (Keyed K)) (moved : IsPermutation xs ys) where
  to : (r : Keyed K) → Contains xs r → Contains ys r
  to r c = Contains-permutation xs ys r moved c

  from : (r : Keyed K) → Contains ys r → Contains xs r
  from r c = Contains-permutation ys xs r (IsPermutation-sym xs ys moved) c

  pub one_moved : AreOneKey cmp xs → AreOneKey cmp ys
  one_moved one r s c d e = one r s (from r c) (from s d) e

  pub put_moved : (old new : List ℕ) (first : ℕ) → ArePutTo cmp ys old (length ys) new first → AreLeastPut cmp xs old new
  put_moved old new first h = record {
    len = h.len;
    put = λ r c. (
        let there = to r c in
        let is = found_at ys r r there in
        let least = subst (λ (s : Keyed K). IsLeastUnder cmp ys s.key (slice_index new s.number)) is (h.put there.0 r there.1) in
        record { row = least.row; there = from least.row least.there; under = least.under; number = least.number; least = λ s d e. least.least s (to s d) e });
    other = λ n none. h.other n (λ i d l e. none (get_or ys i d) (from (get_or ys i d) (contains_at ys i d l)) e);
  }

-- Rows of picked numbers under their keys: how they are gathered, and what stands at these numbers once the least are written.
use Rattle.std.proofs.Common.{◌≡◌, ℕ, ◌+◌, ◌<◌, All, Equal, List, [], ◌∷◌, ◌++◌, length, get_or, sym, ap, subst, ◌∙◌, ◌⊎◌, inl, inr, ⊎_elim, arith, length-append}
use Rattle.std.specs.Prelude.{Contains, slice_index}
use Rattle.std.proofs.Math.ListN.{get_or-append}
use Rattle.std.proofs.Math.Seq.{get_or-append_seam}
use Rattle.std.proofs.lemmas.List.Elements.{Contains-push}
use Rattle.dwz_nodes.specs.Looks.{IsLeastBelow}
use Rattle.dwz_label.specs.declared.equal.Keyed.{Keyed}
use Rattle.dwz_label.specs.Keyed.{AreOneKey, AreLeastPut, AreKeyed, Order}
use Rattle.dwz_label.proofs.Together.{contains_at}

-- ---- gathered

module _ {K : Type 0} where
  pub kept : (rows : List (Keyed K)) (r s : Keyed K) → Contains rows r → Contains (rows ++ s ∷ []) r
  kept rows r s c = (c.0, (let l = c.1 in omega (arith, length-append rows (s ∷ []))), get_or-append rows (s ∷ []) r c.0 c.1 ∙ c.2)

  pub cases : (rows : List (Keyed K)) (r s : Keyed K) → Contains (rows ++ s ∷ []) r → Contains rows r ⊎ (s ≡ r)
  cases rows r s c = ⊎_elim
      (λ (l : c.0 < length rows). inl (c.0, l, sym (get_or-append rows (s ∷ []) r c.0 l) ∙ c.2))
      (λ (e : c.0 ≡ length rows). inr (sym (get_or-append_seam rows s [] r) ∙ ap (λ (k : ℕ). get_or (rows ++ s ∷ []) k r) (sym e) ∙ c.2))
      (let l = c.1 in grind (arith, length-append rows (s ∷ [])))

module _ {K : Type 0} (Picked : ℕ → Type 0) (IsKey : ℕ → K → Type 0) where
  pub rows_none : AreKeyed Picked IsKey 0 []
  rows_none = record { inside = λ r c. absurd (let l = c.1 in omega arith); all = λ n l p. absurd (omega arith) }

  pub rows_passed : (rows : List (Keyed K)) (n : ℕ) → (Picked n → ⊥) → AreKeyed Picked IsKey n rows → AreKeyed Picked IsKey (n + 1) rows
  rows_passed rows n not h = record {
    inside = λ r c. (let i = h.inside r c in let l = i.0 in (omega arith, i.1, i.2));
    all = λ m l p. ⊎_elim (λ (lt : m < n). h.all m lt p) (λ (e : m ≡ n). absurd (not (subst Picked e p))) (grind arith);
  }

  pub rows_more : (rows : List (Keyed K)) (n : ℕ) (row : Keyed K) → row.number ≡ n → Picked n → IsKey n row.key → AreKeyed Picked IsKey n rows → AreKeyed Picked IsKey (n + 1) (rows ++ row ∷ [])
  rows_more rows n row is picked key h = record {
    inside = λ r c. ⊎_elim
        (λ d. let i = h.inside r d in let l = i.0 in (omega arith, i.1, i.2))
        (λ e. subst (λ (s : Keyed K). (s.number < n + 1) × Picked s.number × IsKey s.number s.key) e (omega arith, subst Picked (sym is) picked, subst (λ (m : ℕ). IsKey m row.key) (sym is) key))
        (cases rows r row c);
    all = λ m l p. ⊎_elim
        (λ (lt : m < n). let o = h.all m lt p in (o.0, kept rows o.0 row o.1, o.2))
        (λ (e : m ≡ n). (row, Contains-push rows row, is ∙ sym e))
        (grind arith);
  }

-- ---- written

module _ {K : Type 0} (Picked : ℕ → Type 0) (IsKey : ℕ → K → Type 0) (Same : ℕ → ℕ → Type 0) (cmp : Order K)
    (tied : (m n : ℕ) (x y : K) → IsKey m x → IsKey n y → Same m n → cmp x y ≡ Equal) (count : ℕ) (rows : List (Keyed K)) (are : AreKeyed Picked IsKey count rows) where
  pub rows_inside : (old : List ℕ) → length old ≡ count → All (λ r. r.number < length old) rows
  rows_inside old len i d l = let h = (are.inside (get_or rows i d) (contains_at rows i d l)).0 in omega arith

  pub rows_one : ((n : ℕ) → Same n n) → AreOneKey cmp rows
  rows_one self r s c d e =
      let x = are.inside r c in
      let y = are.inside s d in
      tied r.number s.number r.key s.key x.2 y.2 (subst (λ (m : ℕ). Same r.number m) e (self r.number))

  module _ (same : (m n : ℕ) (x y : K) → IsKey m x → IsKey n y → cmp x y ≡ Equal → Same m n) (old new : List ℕ) (put : AreLeastPut cmp rows old new) where
    pub picked_least : (n : ℕ) → n < count → Picked n → IsLeastBelow count (λ m. Picked m × Same n m) (slice_index new n)
    picked_least n l p =
        let o = are.all n l p in
        let own = are.inside o.0 o.1 in
        let h = put.put o.0 o.1 in
        let found = are.inside h.row h.there in
        let at : slice_index new o.0.number ≡ slice_index new n = ap (λ (k : ℕ). slice_index new k) o.2 in
        subst (λ (m : ℕ). IsLeastBelow count (λ k. Picked k × Same n k) m) (h.number ∙ at)
        (subst (λ (k : ℕ). IsLeastBelow count (λ m. Picked m × Same k m) h.row.number) o.2
        (record {
          inside = found.0;
          is = (found.1, same o.0.number h.row.number o.0.key h.row.key own.2 found.2 h.under);
          least = λ m low q. (
              let r = are.all m low q.0 in
              let other = are.inside r.0 r.1 in
              let up_to = h.least r.0 r.1 (tied o.0.number r.0.number o.0.key r.0.key own.2 other.2 (subst (λ (k : ℕ). Same o.0.number k) (sym r.2) q.1)) in
              let e = r.2 in
              let f = h.number in
              omega arith);
        }))

    pub passed_same : (n : ℕ) → (Picked n → ⊥) → slice_index new n ≡ slice_index old n
    passed_same n not = put.other n (λ r c e. not (subst Picked e (are.inside r c).1))

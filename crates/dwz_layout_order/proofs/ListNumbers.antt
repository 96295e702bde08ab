-- Name lists get their numbers one after the other: each new list the next one.
use Rattle.std.proofs.Common.{◌≡◌, ◌⊎◌, ℕ, zero, suc, ◌+◌, ◌*◌, ◌^◌, ◌<◌, ◌≤◌, List, [], ◌∷◌, ◌++◌, length, get_or, Option, Some, None, slice_get, slice_index, inl, inr, refl, sym, ap, subst, ◌∙◌}
use Rattle.std.proofs.Common.{arith}
use Rattle.std.proofs.lemmas.Bool.Decides.{eqb_tells}
use Rattle.std.proofs.lemmas.List.{get_or_append_left, get_or_push, length-append}
use Rattle.std.specs.Ordering.{nat_cmp}
use Rattle.std.specs.BTreeMap.{get}
use Rattle.dwz_layout_items.specs.declared.partial.SpaceRow.{SpaceRow}
use Rattle.dwz_layout_items.specs.Chains.{IsRising}
use Rattle.dwz_layout_order.specs.Lists.{AreLists, IsNumberBy, IsNumberUnder, Numbers, list_above, outer_at}

abbrev pub Fits : List ℕ → Type 0
Fits texts = (k : ℕ) → slice_index texts k < 2 ^ 32

-- the key of the name list of a space
abbrev pub key_of : ℕ → ℕ → ℕ
key_of outer text = outer * 4294967296 + text

abbrev pub key_at : List SpaceRow → List ℕ → List ℕ → ℕ → ℕ
key_at rows texts lists j = key_of (list_above lists (outer_at rows j)) (slice_index texts j)

-- the first n have their numbers
pub record Numbering (rows : List SpaceRow) (texts : List ℕ) (n : ℕ) (lists : List ℕ) (seen : Numbers) : Type 0 where
  pub len : length lists ≡ n
  pub some : (j : ℕ) → j < n → 0 < slice_index lists j
  pub low : (j : ℕ) → j < n → slice_index lists j ≤ n
  pub under : (j : ℕ) → j < n → get nat_cmp seen (key_at rows texts lists j) ≡ Some (slice_index lists j)
  pub back : (key number : ℕ) → get nat_cmp seen key ≡ Some number → (j : ℕ) × (j < n) × (key_at rows texts lists j ≡ key) × (slice_index lists j ≡ number)
  pub apart : (i j : ℕ) → i < n → j < n → slice_index lists i ≡ slice_index lists j → key_at rows texts lists i ≡ key_at rows texts lists j

pub rises : (rows : List SpaceRow) → IsRising rows → (j : ℕ) → j < length rows → outer_at rows j ≤ j
rises rows h j lt = (let f = found rows j lt in let low = h j f.0 f.1 in subst (λ (n : ℕ). n ≤ j) (sym f.2) low) where
  found : (xs : List SpaceRow) (i : ℕ) → i < length xs → (row : SpaceRow) × (slice_get xs i ≡ Some row) × (outer_at xs i ≡ row.outer)
  found [] i less = absurd (omega arith)
  found (x ∷ xs) zero less = (x, refl, refl)
  found (x ∷ xs) (suc i) less = found xs i (omega arith)

abbrev pub no_row : SpaceRow
no_row = record { space = 0; outer = 0 }

pub outer_there : (rows : List SpaceRow) (k : ℕ) → (get_or rows k no_row).outer ≡ outer_at rows k
outer_there [] k = refl
outer_there (x ∷ rows) zero = refl
outer_there (x ∷ rows) (suc k) = outer_there rows k

above_kept : (lists : List ℕ) (x k : ℕ) → k ≤ length lists → list_above (lists ++ x ∷ []) k ≡ list_above lists k
above_kept lists x zero le = refl
above_kept lists x (suc k) le = get_or_append_left lists (x ∷ []) 0 k (omega arith)

-- below one more than n
one_more : (j n : ℕ) → j < n + 1 → (j < n) ⊎ (j ≡ n)
one_more j n lt = elim (eqb_tells j n) [ inl p ↦ inr p.1 | inr p ↦ inl (let differ = p.1 in omega arith) ]

pub none_numbered : (rows : List SpaceRow) (texts : List ℕ) (seen : Numbers) → ((k : ℕ) → get nat_cmp seen k ≡ None) → Numbering rows texts 0 [] seen
none_numbered rows texts seen none = record {
  len = refl;
  some = λ j lt. absurd (omega arith);
  low = λ j lt. absurd (omega arith);
  under = λ j lt. absurd (omega arith);
  back = λ key number e. absurd (let f = sym (none key) ∙ e in cc);
  apart = λ i j lt. absurd (omega arith);
}

module _ (rows : List SpaceRow) (texts : List ℕ) (rising : IsRising rows) (n : ℕ) (within : n < length rows) (lists : List ℕ) (seen after : Numbers) (key number : ℕ)
    (h : Numbering rows texts n lists seen)
    (is_key : key ≡ key_at rows texts lists n) (put : IsNumberUnder seen after key (n + 1) number) where
  abbrev pub more : List ℕ
  more = lists ++ number ∷ []

  old_at : (j : ℕ) → j < n → slice_index more j ≡ slice_index lists j
  old_at j lt = (let len = h.len in get_or_append_left lists (number ∷ []) 0 j (omega arith))

  new_at : slice_index more n ≡ number
  new_at = get_or_push lists number 0 n h.len

  same_key : (j : ℕ) → j ≤ n → key_at rows texts more j ≡ key_at rows texts lists j
  same_key j le =
      let len = h.len in
      let low = rises rows rising j (omega arith) in
      ap (λ (k : ℕ). key_of k (slice_index texts j)) (above_kept lists number (outer_at rows j) (omega arith))

  -- where the key was met, and where it wasn't
  met : (j : ℕ) → j < n → key_at rows texts lists j ≡ key → number ≡ slice_index lists j
  met j lt e = subst (λ (o : Option ℕ). IsNumberBy o (n + 1) number) (ap (get nat_cmp seen) (sym e) ∙ h.under j lt) put.is

  known : (o : Option ℕ) → get nat_cmp seen key ≡ o → ((number ≡ n + 1) ⊎ ((j : ℕ) × (j < n) × (key_at rows texts lists j ≡ key) × (slice_index lists j ≡ number)))
  known None e = inl (subst (λ (o : Option ℕ). IsNumberBy o (n + 1) number) e put.is)
  known (Some m) e =
      let is : number ≡ m = subst (λ (o : Option ℕ). IsNumberBy o (n + 1) number) e put.is in
      let b = h.back key m e in
      inr (b.0, b.1, b.2, b.3 ∙ sym is)

  number_low : (0 < number) × (number ≤ n + 1)
  number_low = elim (known (get nat_cmp seen key) refl) [
    | inl is ↦ (omega (arith, is), omega (arith, is))
    | inr b ↦ (omega (arith, h.some b.0 b.1, b.3), omega (arith, h.low b.0 b.1, b.3))
  ]

  alone : (j : ℕ) → j < n → slice_index lists j ≡ number → key_at rows texts lists j ≡ key
  alone j lt e = elim (known (get nat_cmp seen key) refl) [
    | inl is ↦ absurd (omega (arith, is, e, h.low j lt))
    | inr b ↦ h.apart j b.0 lt b.1 (e ∙ sym b.3) ∙ b.2
  ]

  pub numbered : Numbering rows texts (n + 1) more after
  numbered = record {
    len = (let len = h.len in omega (arith, length-append lists (number ∷ [])));
    some = λ j lt. elim (one_more j n lt) [
      | inl p ↦ subst (λ (k : ℕ). 0 < k) (sym (old_at j p)) (h.some j p)
      | inr e ↦ subst (λ (k : ℕ). 0 < k) (sym (ap (slice_index more) e ∙ new_at)) number_low.0
    ];
    low = λ j lt. elim (one_more j n lt) [
      | inl p ↦ (let a = h.low j p in let b = old_at j p in omega arith)
      | inr e ↦ (let a = number_low.1 in let b = ap (slice_index more) e ∙ new_at in omega arith)
    ];
    under = λ j lt. elim (one_more j n lt) [
      | inl p ↦ ap (get nat_cmp after) (same_key j (omega arith))
          ∙ elim (eqb_tells (key_at rows texts lists j) key) [
            | inl q ↦ ap (get nat_cmp after) q.1 ∙ put.under ∙ ap Some (met j p q.1 ∙ sym (old_at j p))
            | inr q ↦ put.others (key_at rows texts lists j) q.1 ∙ h.under j p ∙ ap Some (sym (old_at j p))
          ]
      | inr e ↦ ap (λ (k : ℕ). get nat_cmp after (key_at rows texts more k)) e ∙ ap (get nat_cmp after) (same_key n (omega arith) ∙ sym is_key) ∙ put.under
          ∙ ap Some (sym new_at ∙ ap (slice_index more) (sym e))
    ];
    back = λ k m e. elim (eqb_tells k key) [
      | inl q ↦ (
        n,
        omega arith,
        same_key n (omega arith) ∙ sym is_key ∙ sym q.1,
        (let f : Some number ≡ Some m = sym put.under ∙ ap (get nat_cmp after) (sym q.1) ∙ e in let same : number ≡ m = cc in new_at ∙ same),
      )
      | inr q ↦ (let b = h.back k m (sym (put.others k q.1) ∙ e) in let lt = b.1 in (b.0, omega arith, same_key b.0 (omega arith) ∙ b.2, old_at b.0 b.1 ∙ b.3))
    ];
    apart = λ i j li lj e. elim (one_more i n li) [
      | inl p ↦ elim (one_more j n lj) [
        | inl q ↦ same_key i (omega arith) ∙ h.apart i j p q (sym (old_at i p) ∙ e ∙ old_at j q) ∙ sym (same_key j (omega arith))
        | inr q ↦ same_key i (omega arith) ∙ alone i p (sym (old_at i p) ∙ e ∙ ap (slice_index more) q ∙ new_at) ∙ is_key ∙ sym (same_key n (omega arith)) ∙ ap (key_at rows texts more) (sym q)
      ]
      | inr p ↦ elim (one_more j n lj) [
        | inl q ↦ ap (key_at rows texts more) p ∙ same_key n (omega arith) ∙ sym is_key ∙ sym (alone j q (sym (old_at j q) ∙ sym e ∙ ap (slice_index more) p ∙ new_at)) ∙ sym (same_key j (omega arith))
        | inr q ↦ ap (key_at rows texts more) (p ∙ sym q)
      ]
    ];
  }

-- ---- all of them

same_parts : (a b x y : ℕ) → x < 2 ^ 32 → y < 2 ^ 32 → key_of a x ≡ key_of b y → (a ≡ b) × (x ≡ y)
same_parts a b x y p q e = (omega arith, omega arith)

pub all_numbered : (rows : List SpaceRow) (texts lists : List ℕ) (n : ℕ) (seen : Numbers) → Fits texts → n ≡ length rows → Numbering rows texts n lists seen → AreLists rows texts lists
all_numbered rows texts lists n seen fits all h = record {
  len = h.len ∙ all;
  some = λ k lt. h.some k (omega arith);
  same = λ j k lj lk. (
    (λ e. (let p = same_parts _ _ _ _ (fits j) (fits k) (h.apart j k (omega arith) (omega arith) e) in record { outer = p.0; text = p.1 })),
    (λ s. (let same : key_at rows texts lists j ≡ key_at rows texts lists k = (λ i. key_of (s.outer i) (s.text i)) in
        let a = h.under j (omega arith) in
        let b = h.under k (omega arith) in
        let both : Some (slice_index lists j) ≡ Some (slice_index lists k) = sym a ∙ ap (get nat_cmp seen) same ∙ b in
        cc)),
  );
}

-- Lists that are kept as pairs come back under their numbers.
use Rattle.std.proofs.Common.{◌≡◌, ℕ, zero, suc, ◌+◌, ◌<◌, ◌≤◌, Bool, true, false, All, List, [], ◌∷◌, ◌++◌, length, map, cond, refl, sym, ap, ◌∙◌, arith}
use Rattle.std.specs.Prelude.{◌==◌, filter, slice_index_or}
use Rattle.std.specs.List.{range_with_len}
use Rattle.std.proofs.lemmas.Bool.{eq-eqb, ne_eqb}
use Rattle.std.proofs.lemmas.List.{append-nil, append_assoc, map-append}
use Rattle.dwz_def_reading.proofs.ListFacts.{all_more}
use Rattle.dwz_groups.specs.declared.groups.Edge.{Edge}
use Rattle.dwz_groups.specs.Groups.{grouped, values_at}
use Rattle.dwz_move.specs.Bound.{target_of}
use Rattle.dwz_move_files.specs.Drafts.{pairs_from}
use Rattle.dwz_move_files.proofs.ListParts.{all_both, all_none}

-- ---- the values under a key

abbrev at_key : ℕ → Edge → Bool
at_key k p = p.key == k

abbrev values : List Edge → ℕ → List ℕ
values pairs k = map (λ p. p.value) (filter (at_key k) pairs)

filter_append : (k : ℕ) (xs ys : List Edge) → filter (at_key k) (xs ++ ys) ≡ filter (at_key k) xs ++ filter (at_key k) ys
filter_append k [] ys = refl
filter_append k (x ∷ xs) ys = by (at_key k x) (filter_append k xs ys) where
  by : (b : Bool) → filter (at_key k) (xs ++ ys) ≡ filter (at_key k) xs ++ filter (at_key k) ys → cond b (x ∷ filter (at_key k) (xs ++ ys)) (filter (at_key k) (xs ++ ys))
      ≡ cond b (x ∷ filter (at_key k) xs) (filter (at_key k) xs) ++ filter (at_key k) ys
  by true e = ap (λ (w : List Edge). x ∷ w) e
  by false e = e

values_append : (k : ℕ) (xs ys : List Edge) → values (xs ++ ys) k ≡ values xs k ++ values ys k
values_append k xs ys = ap (map (λ (p : Edge). p.value)) (filter_append k xs ys) ∙ map-append (λ (p : Edge). p.value) (filter (at_key k) xs) (filter (at_key k) ys)

values_here : (k : ℕ) (ts : List ℕ) → values (map (target_of k) ts) k ≡ ts
values_here k [] = refl
values_here k (t ∷ ts) =
    ap (λ (b : Bool). map (λ (p : Edge). p.value) (cond b (target_of k t ∷ filter (at_key k) (map (target_of k) ts)) (filter (at_key k) (map (target_of k) ts)))) (eq-eqb k k refl)
    ∙ ap (λ (w : List ℕ). t ∷ w) (values_here k ts)

values_other : (m k : ℕ) → (m ≡ k → ⊥) → (ts : List ℕ) → values (map (target_of m) ts) k ≡ []
values_other m k ne [] = refl
values_other m k ne (t ∷ ts) =
    ap (λ (b : Bool). map (λ (p : Edge). p.value) (cond b (target_of m t ∷ filter (at_key k) (map (target_of m) ts)) (filter (at_key k) (map (target_of m) ts)))) (ne_eqb m k ne)
    ∙ values_other m k ne ts

before_all : (m k : ℕ) (targets : List (List ℕ)) → k < m → values (pairs_from m targets) k ≡ []
unfolding pairs_from
before_all m k [] lt = refl
before_all m k (ts ∷ targets) lt =
    values_append k (map (target_of m) ts) (pairs_from (suc m) targets)
    ∙ (λ i. values_other m k (λ e. omega (arith, e, lt)) ts i ++ before_all (suc m) k targets (omega arith) i)

values_from : (m j : ℕ) (targets : List (List ℕ)) → values (pairs_from m targets) (m + j) ≡ slice_index_or targets j []
unfolding pairs_from
values_from m j [] = refl
values_from m zero (ts ∷ targets) =
    let z : m + 0 ≡ m = omega arith in
    ap (values (pairs_from m (ts ∷ targets))) z
    ∙ values_append m (map (target_of m) ts) (pairs_from (suc m) targets)
    ∙ (λ i. values_here m ts i ++ before_all (suc m) m targets (omega arith) i)
    ∙ append-nil ts
values_from m (suc j) (ts ∷ targets) =
    let z : m + suc j ≡ suc m + j = omega arith in
    values_append (m + suc j) (map (target_of m) ts) (pairs_from (suc m) targets)
    ∙ ap (λ (w : List ℕ). w ++ values (pairs_from (suc m) targets) (m + suc j)) (values_other m (m + suc j) (λ e. omega (arith, e)) ts)
    ∙ ap (values (pairs_from (suc m) targets)) z
    ∙ values_from (suc m) j targets

-- ---- all keys

range_at : (a n k : ℕ) (pairs : List Edge) → k < n → slice_index_or (map (values pairs) (range_with_len a n)) k [] ≡ values pairs (a + k)
range_at a zero k pairs lt = absurd (omega arith)
range_at a (suc n) zero pairs lt = let z : a ≡ a + 0 = omega arith in ap (values pairs) z
range_at a (suc n) (suc k) pairs lt = let z : a + 1 + k ≡ a + suc k = omega arith in range_at (a + 1) n k pairs (omega arith) ∙ ap (values pairs) z

-- the list under a number
pub grouped_at : (n k : ℕ) (targets : List (List ℕ)) → k < n → slice_index_or (grouped n (pairs_from 0 targets)) k [] ≡ slice_index_or targets k []
unfolding grouped values_at
grouped_at n k targets lt = range_at 0 n k (pairs_from 0 targets) lt ∙ values_from 0 k targets

-- ---- keys are numbers of lists

all_here : (n m : ℕ) → m < n → (ts : List ℕ) → All (λ p. p.key < n) (map (target_of m) ts)
all_here n m lt [] = all_none (λ (p : Edge). p.key < n)
all_here n m lt (t ∷ ts) = all_more (λ (p : Edge). p.key < n) (target_of m t) (map (target_of m) ts) lt (all_here n m lt ts)

pub keys_low : (n m : ℕ) (targets : List (List ℕ)) → m + length targets ≤ n → All (λ p. p.key < n) (pairs_from m targets)
unfolding pairs_from
keys_low n m [] le = all_none (λ (p : Edge). p.key < n)
keys_low n m (ts ∷ targets) le = all_both (λ (p : Edge). p.key < n) (map (target_of m) ts) (pairs_from (suc m) targets) (all_here n m (omega arith) ts) (keys_low n (suc m) targets (omega arith))

-- ---- more lists

pub pairs_append : (m n : ℕ) (targets more : List (List ℕ)) → m + length targets ≡ n → pairs_from m (targets ++ more) ≡ pairs_from m targets ++ pairs_from n more
unfolding pairs_from
pairs_append m n [] more e = (let same : m ≡ n = omega arith in ap (λ (k : ℕ). pairs_from k more) same)
pairs_append m n (us ∷ targets) more e =
    ap (λ (w : List Edge). map (target_of m) us ++ w) (pairs_append (suc m) n targets more (omega arith))
    ∙ sym (append_assoc (map (target_of m) us) (pairs_from (suc m) targets) (pairs_from n more))

-- one more list
pub pairs_more : (m : ℕ) (targets : List (List ℕ)) (ts : List ℕ) → pairs_from m (targets ++ ts ∷ []) ≡ pairs_from m targets ++ map (target_of (m + length targets)) ts
unfolding pairs_from
pairs_more m [] ts = let z : m ≡ m + 0 = omega arith in append-nil (map (target_of m) ts) ∙ ap (λ (k : ℕ). map (target_of k) ts) z
pairs_more m (us ∷ targets) ts =
    let z : suc m + length targets ≡ m + suc (length targets) = omega arith in
    ap (λ (w : List Edge). map (target_of m) us ++ w) (pairs_more (suc m) targets ts ∙ ap (λ (k : ℕ). pairs_from (suc m) targets ++ map (target_of k) ts) z)
    ∙ sym (append_assoc (map (target_of m) us) (pairs_from (suc m) targets) (map (target_of (m + suc (length targets))) ts))

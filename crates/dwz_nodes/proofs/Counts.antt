-- How often a number is among targets, and how many targets are less: a room for each number, one behind the other.
use Rattle.std.proofs.Common.{◌≡◌, ℕ, zero, suc, ◌+◌, ◌<◌, ◌≤◌, ◌==◌, cond, Bool, false, List, [], ◌∷◌, ◌++◌, length, get_or, set, take, sum, replicate, refl, sym, ap, subst, ◌∙◌, arith, length-take}
use Rattle.std.proofs.Common.{length-set, eq-eqb, ◌⊎◌, inl, inr}
use Rattle.std.specs.Prelude.{nat_lt}
use Rattle.std.proofs.lemmas.Bool.{cases_eq, le-ltb, ne_eqb}
use Rattle.std.proofs.lemmas.List.{take_all, get_or-set_same, get_or-set_other, get_or-replicate, length-replicate}
use Rattle.std.proofs.lemmas.List.Sums.{count_by-le-length, sum_by-cons, sum_by-append, sum_by_more, sum_by-le-sum_by}
use Rattle.dwz_model.proofs.PartFacts.{one_more}
use Rattle.dwz_nodes.specs.Rooms.{count_at, count_below}

pub count_below-zero : (ts : List ℕ) → count_below ts 0 ≡ 0
unfolding count_below
count_below-zero [] = refl
count_below-zero (t ∷ ts) = sum_by-cons (λ q. cond (nat_lt q 0) 1 0) t ts ∙ (let h = count_below-zero ts in let no : nat_lt t 0 ≡ false = le-ltb t 0 (omega arith) in rw no (omega (arith, h)))

pub count_below-suc : (ts : List ℕ) (k : ℕ) → count_below ts (suc k) ≡ count_below ts k + count_at ts k
unfolding count_below count_at
count_below-suc [] k = refl
count_below-suc (t ∷ ts) k =
    let a = sum_by-cons (λ q. cond (nat_lt q (suc k)) 1 0) t ts in
    let b = sum_by-cons (λ q. cond (nat_lt q k) 1 0) t ts in
    let c = sum_by-cons (λ q. cond (q == k) 1 0) t ts in
    let h = count_below-suc ts k in
    let one = one_more t k in
    omega (arith, a, b, c, h, one)

pub count_below-le : (ts : List ℕ) (k : ℕ) → count_below ts k ≤ length ts
unfolding count_below
count_below-le ts k = count_by-le-length (λ t. nat_lt t k) ts

pub count_below-rise : (ts : List ℕ) (k m : ℕ) → k ≤ m → count_below ts k ≤ count_below ts m
unfolding count_below
count_below-rise ts k m l = sum_by-le-sum_by (λ t. cond (nat_lt t k) 1 0) (λ t. cond (nat_lt t m) 1 0) ts (λ t. (grind arith))

pub count_at-append : (xs ys : List ℕ) (a : ℕ) → count_at (xs ++ ys) a ≡ count_at xs a + count_at ys a
unfolding count_at
count_at-append xs ys a = sum_by-append (λ t. cond (t == a) 1 0) xs ys

pub count_at-one : (t : ℕ) → count_at (t ∷ []) t ≡ 1
unfolding count_at
count_at-one t =
    let one : cond {A = ℕ} (t == t) 1 0 ≡ 1 = ap (λ (b : Bool). cond b 1 0) (eq-eqb t t refl) in
    sum_by-cons (λ q. cond (q == t) 1 0) t [] ∙ omega (arith, one)

pub count_at-none : (a : ℕ) → count_at [] a ≡ 0
unfolding count_at
count_at-none a = refl

count_at-more : (ts : List ℕ) (i a : ℕ) → i < length ts → count_at (take (i + 1) ts) a ≡ count_at (take i ts) a + cond (get_or ts i 0 == a) 1 0
unfolding count_at
count_at-more ts i a l = sum_by_more (λ t. cond (t == a) 1 0) ts i 0 l

pub count_at-small : (ts : List ℕ) (i a : ℕ) → count_at (take i ts) a ≤ i
unfolding count_at
count_at-small ts i a = omega (arith, count_by-le-length (λ t. t == a) (take i ts), length-take i ts)

-- ---- counting

-- each count is that of the first i targets
pub record Counted (n : ℕ) (ts : List ℕ) (i : ℕ) (counts : List ℕ) : Type 0 where
  pub len : length counts ≡ n
  pub each : (a : ℕ) → a < n → get_or counts a 0 ≡ count_at (take i ts) a

pub counted-none : (n : ℕ) (ts counts : List ℕ) → counts ≡ replicate n 0 → Counted n ts 0 counts
counted-none n ts counts is = record {
  len = ap (λ (ns : List ℕ). length ns) is ∙ length-replicate n 0;
  each = λ a l. ap (λ (ns : List ℕ). get_or ns a 0) is ∙ (get_or-replicate n a 0 0 l ∙ sym (count_at-none a));
}

pub counted-more : (n : ℕ) (ts : List ℕ) (i : ℕ) (counts : List ℕ) (t c : ℕ) → i < length ts → t ≡ get_or ts i 0 → t < n → c ≡ get_or counts t 0 → Counted n ts i counts
    → Counted n ts (i + 1) (set counts t (c + 1))
counted-more n ts i counts t c l is there at h = record {
  len = length-set counts t (c + 1) ∙ h.len;
  each = λ a in'. by a in' (cases_eq a t);
} where
  by : (a : ℕ) → a < n → (a ≡ t) ⊎ (a ≡ t → ⊥) → get_or (set counts t (c + 1)) a 0 ≡ count_at (take (i + 1) ts) a
  by a in' (inl e) =
      let one : cond {A = ℕ} (get_or ts i 0 == t) 1 0 ≡ 1 = ap (λ (b : Bool). cond b 1 0) (eq-eqb (get_or ts i 0) t (sym is)) in
      subst (λ j. get_or (set counts t (c + 1)) j 0 ≡ count_at (take (i + 1) ts) j) (sym e)
      (get_or-set_same counts t (c + 1) 0 (omega (arith, h.len)) ∙ omega (arith, at, h.each t there, one, count_at-more ts i t l))
  by a in' (inr ne) =
      let none : cond {A = ℕ} (get_or ts i 0 == a) 1 0 ≡ 0 = ap (λ (b : Bool). cond b 1 0) (ne_eqb (get_or ts i 0) a (λ e. ne (sym e ∙ sym is))) in
      get_or-set_other counts t a (c + 1) 0 ne ∙ omega (arith, h.each a in', none, count_at-more ts i a l)

pub counted-skip : (n : ℕ) (ts : List ℕ) (i : ℕ) (counts : List ℕ) → i < length ts → n ≤ get_or ts i 0 → Counted n ts i counts → Counted n ts (i + 1) counts
counted-skip n ts i counts l out h = record {
  len = h.len;
  each = λ a in'.
      let ne : get_or ts i 0 ≡ a → ⊥ = omega arith in
      let none : cond {A = ℕ} (get_or ts i 0 == a) 1 0 ≡ 0 = ap (λ (b : Bool). cond b 1 0) (ne_eqb (get_or ts i 0) a ne) in
      omega (arith, h.each a in', none, count_at-more ts i a l);
}

pub counted-all : (n : ℕ) (ts : List ℕ) (i : ℕ) (counts : List ℕ) → length ts ≤ i → Counted n ts i counts → (a : ℕ) → a < n → get_or counts a 0 ≡ count_at ts a
counted-all n ts i counts l h a in' = h.each a in' ∙ ap (λ (us : List ℕ). count_at us a) (take_all i ts l)

-- ---- the sums of counts are the starts of the rooms

pub sum_is : (ts counts : List ℕ) → ((a : ℕ) → a < length counts → get_or counts a 0 ≡ count_at ts a) → (k : ℕ) → k ≤ length counts → sum (take k counts) ≡ count_below ts k
sum_is ts counts each zero l = sym (count_below-zero ts)
sum_is ts counts each (suc k) l =
    let more = sum_is ts counts each k (omega arith) in
    let step = sum_by_more (λ n. n) counts k 0 (omega arith) in
    let n = each k (omega arith) in
    let s = count_below-suc ts k in
    let e : suc k ≡ k + 1 = omega arith in
    ap (λ j. sum (take j counts)) e ∙ omega (arith, more, step, n, s)

pub sum_fits : (ts counts : List ℕ) → ((a : ℕ) → a < length counts → get_or counts a 0 ≡ count_at ts a) → sum counts ≤ length ts
sum_fits ts counts each =
    let all : sum counts ≡ sum (take (length counts) counts) = ap sum (sym (take_all (length counts) counts (omega arith))) in
    omega (arith, all, sum_is ts counts each (length counts) (omega arith), count_below-le ts (length counts))

-- Sections have just one order, and it is the one that is made by putting each among those behind it.
use Rattle.std.proofs.Common.{◌≡◌, ℕ, zero, suc, ◌+◌, ◌<◌, ◌≤◌, Bool, true, false, cond, List, [], ◌∷◌, length, get_or, sum_by, refl, sym, ap, ◌∙◌, arith, add-one}
use Rattle.std.specs.List.Sorted.{IsPermutation, IsSorted}
use Rattle.std.specs.declared.cmp.Ordering.{Ordering}
use Rattle.std.specs.Ordering.{is_lt, nat_cmp, ordering_then}
use Rattle.std.proofs.lemmas.Bool.Decides.{nat_tests}
use Rattle.std.proofs.lemmas.Cmp.{nat_cmp_total, on_total, then_total}
use Rattle.std.proofs.lemmas.List.Sorted.{IsPermutation-cons, IsPermutation-middle, IsPermutation-refl, IsPermutation-sym, IsPermutation-trans, ranks_by, sorted_far, sum_by-IsPermutation}
use Rattle.std.proofs.lemmas.List.Sums.{sum_by-cons}
use Rattle.dwz_def_reading.specs.ElfLayout.{IsOrder, keep_end, moving}
use Rattle.dwz_def_reading.specs.ElfReading.{ElfView}
use Rattle.dwz_def_output.specs.FilesAfter.{in_order, order_of, put_in_order}

-- an old offset and an index
abbrev Key : Type 0
Key = ℕ × ℕ

abbrev by_place : Key → Key → Ordering
by_place a b = ordering_then (nat_cmp a.0 b.0) (nat_cmp a.1 b.1)

abbrev before : Key → Key → Bool
before a b = is_lt (by_place a b)

-- none of them is before it
abbrev Least : Key → List Key → Type 0
Least x [] = Unit {0}
Least x (y ∷ ys) = (before y x ≡ false) × Least x ys

abbrev Ascend : List Key → Type 0
Ascend [] = Unit {0}
Ascend (x ∷ xs) = Least x xs × Ascend xs

least_of : (x : Key) (xs : List Key) → ((k : ℕ) → k < length xs → before (get_or xs k x) x ≡ false) → Least x xs
least_of x [] h = tt
least_of x (y ∷ ys) h = (h 0 (omega arith), least_of x ys (λ k p. h (suc k) (omega (arith, p))))

ascend_of : (xs : List Key) → ((i j : ℕ) (d : Key) → i ≤ j → j < length xs → before (get_or xs j d) (get_or xs i d) ≡ false) → Ascend xs
ascend_of [] h = tt
ascend_of (x ∷ xs) h =
    (least_of x xs (λ k p. h 0 (suc k) x (omega arith) (omega (arith, p))), ascend_of xs (λ i j d p q. h (suc i) (suc j) d (omega (arith, p)) (omega (arith, q))))

ascend : (xs : List Key) → IsSorted by_place xs → Ascend xs
ascend xs sorted = ascend_of xs (sorted_far before (ranks_by (then_total (on_total (λ (p : Key). p.0) nat_cmp_total) (on_total (λ (p : Key). p.1) nat_cmp_total)) (λ (p : Key). p)) xs sorted)

-- one for what is before it
abbrev below : Key → Key → ℕ
below x y = cond (before y x) 1 0

none_below : (x : Key) (xs : List Key) → Least x xs → sum_by (below x) xs ≡ 0
none_below x [] least = refl
none_below x (y ∷ ys) least = let first : below x y ≡ 0 = ap (λ (b : Bool). cond b 1 0) least.0 in omega (arith, sum_by-cons (below x) y ys, first, none_below x ys least.1)

never_itself : (x : Key) → before x x ≡ false
never_itself x = grind (arith, nat_tests)

not_one : (b : Bool) (n : ℕ) → cond b 1 0 + n ≡ 0 → b ≡ false
not_one true n e = absurd (omega (arith, e))
not_one false n e = refl

same_key : (a b c d : ℕ) → a ≡ c → b ≡ d → (let x : Key = (a, b) in let y : Key = (c, d) in x ≡ y)
same_key a b c d first second = cc

neither : (x y : Key) → before y x ≡ false → before x y ≡ false → x ≡ y
neither x y p q =
    let first : x.0 ≡ y.0 = grind (arith, nat_tests) in
    let second : x.1 ≡ y.1 = grind (arith, nat_tests) in
    same_key x.0 x.1 y.0 y.1 first second

-- what is counted in the one is counted in the other
abbrev SameSums : List Key → List Key → Type 0
SameSums xs ys = (f : Key → ℕ) → sum_by f xs ≡ sum_by f ys

-- the first of the one isn't after the first of the other
not_after : (x y : Key) (xs ys : List Key) → Least x xs → SameSums (x ∷ xs) (y ∷ ys) → before y x ≡ false
not_after x y xs ys least same =
    let none : sum_by (below x) (x ∷ xs) ≡ 0 = none_below x (x ∷ xs) (never_itself x, least) in
    not_one (before y x) (sum_by (below x) ys) (sym (sum_by-cons (below x) y ys) ∙ sym (same (below x)) ∙ none)

same_first : (x y : Key) (xs ys : List Key) → Least x xs → Least y ys → SameSums (x ∷ xs) (y ∷ ys) → x ≡ y
same_first x y xs ys one other same = neither x y (not_after x y xs ys one same) (not_after y x ys xs other (λ f. sym (same f)))

same_rest : (x y : Key) (xs ys : List Key) → x ≡ y → SameSums (x ∷ xs) (y ∷ ys) → SameSums xs ys
same_rest x y xs ys e same f = omega (arith, same f, sum_by-cons f x xs, sum_by-cons f y ys, ap f e)

no_more : (y : Key) (ys : List Key) → sum_by (λ (k : Key). 1) (y ∷ ys) ≡ 0 → ⊥
no_more y ys e = absurd (omega (arith, e, sum_by-cons (λ (k : Key). 1) y ys))

one_order : (xs ys : List Key) → Ascend xs → Ascend ys → SameSums xs ys → xs ≡ ys
one_order [] [] one other same = refl
one_order [] (y ∷ ys) one other same = absurd (no_more y ys (sym (same (λ k. 1))))
one_order (x ∷ xs) [] one other same = absurd (no_more x xs (same (λ k. 1)))
one_order (x ∷ xs) (y ∷ ys) one other same =
    let first = same_first x y xs ys one.0 other.0 same in
    let rest = one_order xs ys one.1 other.1 (same_rest x y xs ys first same) in
    ap (λ (k : Key). k ∷ xs) first ∙ ap (λ (ks : List Key). y ∷ ks) rest

pub same_order : (e : ElfView) (a b : List Key) → IsOrder e a → IsOrder e b → a ≡ b
same_order e a b one other =
    one_order a b (ascend a one.ascends) (ascend b other.ascends) (λ f. sum_by-IsPermutation f _ a one.same ∙ sym (sum_by-IsPermutation f _ b other.same))

-- ---- the order that is made

-- of two that stand beside each other the second isn't before the first
abbrev Adjacent : List Key → Type 0
Adjacent [] = Unit {0}
Adjacent (x ∷ []) = Unit {0}
Adjacent (x ∷ y ∷ xs) = (before y x ≡ false) × Adjacent (y ∷ xs)

adjacent_at : (xs : List Key) → Adjacent xs → (k : ℕ) (d : Key) → suc k < length xs → before (get_or xs (suc k) d) (get_or xs k d) ≡ false
adjacent_at [] h k d lt = absurd (omega (arith, lt))
adjacent_at (x ∷ []) h k d lt = absurd (omega (arith, lt))
adjacent_at (x ∷ y ∷ xs) h zero d lt = h.0
adjacent_at (x ∷ y ∷ xs) h (suc k) d lt = adjacent_at (y ∷ xs) h.1 k d (omega (arith, lt))

sorted_of : (xs : List Key) → Adjacent xs → IsSorted by_place xs
sorted_of xs h k d low lt = rw add-one (adjacent_at xs h k d (omega (arith, lt)))

one_way : (x y : Key) → before x y ≡ true → before y x ≡ false
one_way x y h = grind (arith, nat_tests)

rest_adjacent : (x : Key) (xs : List Key) → Adjacent (x ∷ xs) → Adjacent xs
rest_adjacent x [] h = tt
rest_adjacent x (y ∷ xs) h = h.1

-- what is put among others is behind what they were behind
put_behind : (key x : Key) (xs : List Key) → Adjacent (x ∷ xs) → before key x ≡ false → Adjacent (put_in_order key xs) → Adjacent (x ∷ put_in_order key xs)
unfolding put_in_order
put_behind key x [] h p q = (p, tt)
put_behind key x (y ∷ xs) h p q = by (before y key) q where
  by : (b : Bool) → Adjacent (cond b (y ∷ put_in_order key xs) (key ∷ y ∷ xs)) → Adjacent (x ∷ cond b (y ∷ put_in_order key xs) (key ∷ y ∷ xs))
  by true q = (h.0, q)
  by false q = (p, q)

put_adjacent : (key : Key) (xs : List Key) → Adjacent xs → Adjacent (put_in_order key xs)
unfolding put_in_order
put_adjacent key [] h = tt
put_adjacent key (x ∷ xs) h = by (put_adjacent key xs (rest_adjacent x xs h)) (before x key) refl where
  by : Adjacent (put_in_order key xs) → (b : Bool) → before x key ≡ b → Adjacent (cond b (x ∷ put_in_order key xs) (key ∷ x ∷ xs))
  by among true e = put_behind key x xs h (one_way x key e) among
  by among false e = (e, h)

order_adjacent : (keys : List Key) → Adjacent (in_order keys)
unfolding in_order
order_adjacent [] = tt
order_adjacent (key ∷ keys) = put_adjacent key (in_order keys) (order_adjacent keys)

put_same : (key : Key) (xs : List Key) → IsPermutation (key ∷ xs) (put_in_order key xs)
unfolding put_in_order
put_same key [] = IsPermutation-refl (key ∷ [])
put_same key (x ∷ xs) = by (put_same key xs) (before x key) where
  swapped : IsPermutation (key ∷ x ∷ xs) (x ∷ key ∷ xs)
  swapped = IsPermutation-sym (x ∷ key ∷ xs) (key ∷ x ∷ xs) (IsPermutation-middle (x ∷ []) key xs)

  by : IsPermutation (key ∷ xs) (put_in_order key xs) → (b : Bool) → IsPermutation (key ∷ x ∷ xs) (cond b (x ∷ put_in_order key xs) (key ∷ x ∷ xs))
  by same true = IsPermutation-trans (key ∷ x ∷ xs) (x ∷ key ∷ xs) (x ∷ put_in_order key xs) swapped (IsPermutation-cons x (key ∷ xs) (put_in_order key xs) same)
  by same false = IsPermutation-refl (key ∷ x ∷ xs)

order_same : (keys : List Key) → IsPermutation keys (in_order keys)
unfolding in_order
order_same [] = IsPermutation-refl []
order_same (key ∷ keys) =
    IsPermutation-trans (key ∷ keys) (key ∷ in_order keys) (put_in_order key (in_order keys)) (IsPermutation-cons key keys (in_order keys) (order_same keys)) (put_same key (in_order keys))

pub is_order : (e : ElfView) → IsOrder e (order_of e)
is_order e = record {
  same = order_same (moving (keep_end e) 0 e.sections);
  ascends = sorted_of (order_of e) (order_adjacent (moving (keep_end e) 0 e.sections));
}

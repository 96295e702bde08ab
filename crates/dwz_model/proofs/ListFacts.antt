-- What stands in a list, at a number, in front, behind, or in a part of it.
use Rattle.std.proofs.Common.{◌≡◌, List, [], ◌∷◌, ◌++◌, length, Some, refl, ℕ, zero, suc, ◌<◌, arith, inl, inr, map, ap, sym, ◌∙◌, get_or, ◌+◌, drop, ◌-◌, take, replicate, append_assoc, drop-cons}
use Rattle.std.proofs.Common.{false, ◌⊎◌, ◌≤◌, All, ◌||◌, Bool, true}
use Rattle.std.specs.List.{list_any, range_with_len, slice_get}
use Rattle.std.specs.Prelude.{slice_index_or, slice_range}
use Rattle.std.proofs.lemmas.Grind.{common_steps}
use Rattle.std.proofs.Math.Bool.{or-true}
use Rattle.dwz_model.specs.Lists.{In}

-- the place of what is appended, and the other places
pub get_last : {X : Type 0} (xs : List X) (x : X) → slice_get (xs ++ x ∷ []) (length xs) ≡ Some x
get_last [] x = refl
get_last (y ∷ xs) x = get_last xs x

pub got_there : {X : Type 0} (xs : List X) (k : ℕ) → k < length xs → (x : X) × (slice_get xs k ≡ Some x)
got_there [] k lt = absurd (omega arith)
got_there (x ∷ xs) zero lt = (x, refl)
got_there (x ∷ xs) (suc k) lt = got_there xs k (omega arith)

pub got_below : {X : Type 0} (xs : List X) (k : ℕ) (x : X) → slice_get xs k ≡ Some x → k < length xs
got_below [] k x e = absurd cc
got_below (y ∷ xs) zero x e = omega arith
got_below (y ∷ xs) (suc k) x e = let r = got_below xs k x e in omega arith

pub got_in : {X : Type 0} (xs : List X) (k : ℕ) (x : X) → slice_get xs k ≡ Some x → In x xs
got_in [] k x e = absurd cc
got_in (y ∷ xs) zero x e = inl (let same : y ≡ x = cc in same)
got_in (y ∷ xs) (suc k) x e = inr (got_in xs k x e)

pub got_map : {X Y : Type 0} (f : X → Y) (xs : List X) (k : ℕ) (x : X) → slice_get xs k ≡ Some x → slice_get (map f xs) k ≡ Some (f x)
got_map f [] k x e = absurd cc
got_map f (y ∷ xs) zero x e = ap (λ w. Some (f w)) (let same : y ≡ x = cc in same)
got_map f (y ∷ xs) (suc k) x e = got_map f xs k x e

pub same_got : {X : Type 0} (xs : List X) (k : ℕ) (x y : X) → slice_get xs k ≡ Some x → slice_get xs k ≡ Some y → x ≡ y
same_got {X} xs k x y p q = let both : Some x ≡ Some y = sym p ∙ q in cc

-- an item that is read by its number
pub item_got : {X : Type 0} (xs : List X) (k : ℕ) (x : X) → k < length xs → x ≡ get_or xs k x → slice_get xs k ≡ Some x
item_got [] k x lt e = absurd (omega arith)
item_got (y ∷ xs) zero x lt e = ap (λ w. Some w) (sym e)
item_got (y ∷ xs) (suc k) x lt e = item_got xs k x (omega arith) e

pub drop_pairs : {X : Type 0} (xs : List X) (k : ℕ) (d : X) → k < length xs → drop k xs ≡ get_or xs k d ∷ drop (k + 1) xs
drop_pairs [] k d lt = absurd (omega arith)
drop_pairs (x ∷ xs) zero d lt = refl
drop_pairs (x ∷ xs) (suc k) d lt =
    let one : suc (k + 1) ≡ suc k + 1 = omega arith in
    drop_pairs xs k d (omega arith) ∙ ap (λ (n : ℕ). get_or xs k d ∷ drop n (x ∷ xs)) one

pub got_index_or : {X : Type 0} (xs : List X) (i : ℕ) (x d : X) → slice_get xs i ≡ Some x → slice_index_or xs i d ≡ x
got_index_or [] i x d e = absurd cc
got_index_or (y ∷ xs) zero x d e = cc
got_index_or (y ∷ xs) (suc i) x d e = got_index_or xs i x d e

pub numbers_more : (a n : ℕ) → range_with_len a (suc n) ≡ range_with_len a n ++ (a + n) ∷ []
numbers_more a zero = let e : a ≡ a + 0 = omega arith in ap (λ (w : ℕ). w ∷ []) e
numbers_more a (suc n) = let e : a + 1 + n ≡ a + suc n = omega arith in ap (λ (w : List ℕ). a ∷ w) (numbers_more (a + 1) n ∙ ap (λ (w : ℕ). range_with_len (a + 1) n ++ w ∷ []) e)

pub whole_rest : (table : List ℕ) (at : ℕ) → take (length table - at) (drop at table) ≡ drop at table
whole_rest table at = grind (arith, common_steps)

pub more_zeros : (k m : ℕ) → k ≡ m + 1 → replicate {A = ℕ} k 0 ≡ 0 ∷ replicate {A = ℕ} m 0
more_zeros k m is = let e : k ≡ suc m = omega (arith, is) in rw e refl

pub one_zero : (count i : ℕ) (old new all : List ℕ) → i < count → new ≡ old ++ 0 ∷ [] → old ++ replicate (count - i) 0 ≡ all → new ++ replicate (count - (i + 1)) 0 ≡ all
one_zero count i old new all less is so_far =
    let left = more_zeros (count - i) (count - (i + 1)) (omega (arith, less)) in
    rw (is, append_assoc, ← left) so_far

pub drop_first : {X : Type 0} (xs : List X) (i : ℕ) (x : X) (rest : List X) → drop i xs ≡ x ∷ rest → (slice_get xs i ≡ Some x) × (drop (i + 1) xs ≡ rest)
drop_first [] zero x rest e = absurd cc
drop_first [] (suc i) x rest e = absurd cc
drop_first {X} (y ∷ xs) zero x rest e = (let same : y ≡ x = cc in ap (λ (w : X). Some w) same, cc)
drop_first {X} (y ∷ xs) (suc i) x rest e =
    let r = drop_first xs i x rest e in
    let one : suc i + 1 ≡ suc (i + 1) = omega arith in
    (r.0, ap (λ (n : ℕ). drop n (y ∷ xs)) one ∙ r.1)

pub get_first : {X : Type 0} (xs ys : List X) (k : ℕ) (x : X) → slice_get xs k ≡ Some x → slice_get (xs ++ ys) k ≡ Some x
get_first [] ys k x e = absurd cc
get_first (z ∷ xs) ys zero x e = e
get_first (z ∷ xs) ys (suc k) x e = get_first xs ys k x e

pub drop_next : {X : Type 0} (xs : List X) (i : ℕ) (x : X) → i < length xs → x ≡ get_or xs i x → drop i xs ≡ x ∷ drop (i + 1) xs
drop_next {X} xs i x lt e = let one : suc i ≡ i + 1 = omega arith in drop-cons xs i x lt ∙ (λ j. sym e j ∷ drop (one j) xs)

pub replicate_long : (count : ℕ) → length (replicate count false) ≡ count
replicate_long zero = refl
replicate_long (suc count) = ap suc (replicate_long count)

pub in_map : {X Y : Type 0} (f : X → Y) (x : X) (xs : List X) → In x xs → In (f x) (map f xs)
in_map f x [] h = absurd h
in_map f x (y ∷ xs) (inl same) = inl (ap f same)
in_map f x (y ∷ xs) (inr later) = inr (in_map f x xs later)

pub in_cases : {X : Type 0} (x : X) (xs ys : List X) → In x (xs ++ ys) → In x xs ⊎ In x ys
in_cases x [] ys h = inr h
in_cases x (z ∷ xs) ys (inl same) = inl (inl same)
in_cases x (z ∷ xs) ys (inr later) = elim (in_cases x xs ys later) [ inl a ↦ inl (inr a) | inr b ↦ inr b ]

pub in_left : {X : Type 0} (x : X) (xs ys : List X) → In x xs → In x (xs ++ ys)
in_left x [] ys h = absurd h
in_left x (z ∷ xs) ys (inl same) = inl same
in_left x (z ∷ xs) ys (inr later) = inr (in_left x xs ys later)

pub in_right : {X : Type 0} (x : X) (xs ys : List X) → In x ys → In x (xs ++ ys)
in_right x [] ys h = h
in_right x (z ∷ xs) ys h = inr (in_right x xs ys h)

pub range_none : {X : Type 0} (xs : List X) (a b : ℕ) → b ≤ a → slice_range xs a b ≡ []
range_none xs a b le = let z : b - a ≡ 0 = omega arith in ap (λ (k : ℕ). take k (drop a xs)) z

-- one more element
pub all_more : {X : Type 0} (P : X → Type 0) (x : X) (xs : List X) → P x → All P xs → All P (x ∷ xs)
all_more P x xs first rest zero d lt = first
all_more P x xs first rest (suc k) d lt = rest k d (omega (arith, lt))

pub any_in : {X : Type 0} (p : X → Bool) (xs : List X) (x : X) → In x xs → p x ≡ true → list_any p xs ≡ true
any_in p [] x is holds = absurd is
any_in p (y ∷ xs) x (inl same) holds = ap (λ (b : Bool). b || list_any p xs) (ap p same ∙ holds)
any_in p (y ∷ xs) x (inr later) holds = ap (λ (b : Bool). p y || b) (any_in p xs x later holds) ∙ or-true (p y)

pub in_at : (xs : List ℕ) (i : ℕ) → i < length xs → In (get_or xs i 0) xs
in_at [] i lt = absurd (omega (arith, lt))
in_at (x ∷ xs) zero lt = inl refl
in_at (x ∷ xs) (suc i) lt = inr (in_at xs i (omega (arith, lt)))

pub drop_here : {X : Type 0} (xs : List X) (i : ℕ) (x : X) → slice_get xs i ≡ Some x → drop i xs ≡ x ∷ drop (i + 1) xs
drop_here [] i x e = absurd cc
drop_here {X} (y ∷ xs) zero x e = let is : y ≡ x = cc in ap (λ (w : X). w ∷ xs) is
drop_here {X} (y ∷ xs) (suc i) x e =
    let one : suc (i + 1) ≡ suc i + 1 = omega arith in
    drop_here xs i x e ∙ ap (λ (n : ℕ). x ∷ drop n (y ∷ xs)) one

-- one more, and none left
pub range_here : {X : Type 0} (xs : List X) (i j : ℕ) (x : X) → i < j → slice_get xs i ≡ Some x → slice_range xs i j ≡ x ∷ slice_range xs (i + 1) j
range_here {X = X} xs i j x lt e =
    let one : j - i ≡ suc (j - (i + 1)) = omega arith in
    ap (λ (w : List X). take (j - i) w) (drop_here xs i x e) ∙ ap (λ (n : ℕ). take n (x ∷ drop (i + 1) xs)) one

-- Parts of lists, one behind the other.
use Rattle.std.proofs.Common.{◌≡◌, ℕ, zero, suc, ◌+◌, ◌-◌, ◌≤◌, All, List, [], ◌∷◌, ◌++◌, length, map, take, drop, refl, sym, ap, ◌∙◌, arith}
use Rattle.std.specs.Prelude.{replicate, slice_range}
use Rattle.std.proofs.lemmas.List.{append_assoc, drop-drop, drop-map, replicate-append-replicate, take_all}
use Rattle.dwz_def_reading.proofs.ListFacts.{all_more}

take_map : {X Y : Type 0} (f : X → Y) (n : ℕ) (xs : List X) → take n (map f xs) ≡ map f (take n xs)
take_map f zero xs = refl
take_map f (suc n) [] = refl
take_map f (suc n) (x ∷ xs) = ap (λ w. f x ∷ w) (take_map f n xs)

pub range_map : {X Y : Type 0} (f : X → Y) (xs : List X) (a b : ℕ) → slice_range (map f xs) a b ≡ map f (slice_range xs a b)
range_map f xs a b = ap (take (b - a)) (drop-map f a xs) ∙ take_map f (b - a) (drop a xs)

none_taken : {X : Type 0} (k : ℕ) (none : List X) → length none ≡ 0 → take k none ≡ none
none_taken {X} k none e = take_all k none (omega arith)

take_more : {X : Type 0} (m n : ℕ) (xs : List X) → take (m + n) xs ≡ take m xs ++ take n (drop m xs)
take_more {X} zero n xs = (let e : 0 + n ≡ n = omega arith in ap (λ (k : ℕ). take k xs) e)
take_more {X} (suc m) n [] = none_taken {X = X} (suc m + n) [] refl ∙ sym (none_taken {X = X} n [] refl)
take_more {X} (suc m) n (x ∷ xs) = (let e : suc m + n ≡ suc (m + n) = omega arith in ap (λ (k : ℕ). take k (x ∷ xs)) e) ∙ ap (λ (w : List X). x ∷ w) (take_more m n xs)

pub range_split : {X : Type 0} (xs : List X) (a b c : ℕ) → a ≤ b → b ≤ c → slice_range xs a c ≡ slice_range xs a b ++ slice_range xs b c
range_split {X} xs a b c low high =
    let one : c - a ≡ (b - a) + (c - b) = omega arith in
    let two : a + (b - a) ≡ b = omega arith in
    ap (λ (k : ℕ). take k (drop a xs)) one
    ∙ take_more (b - a) (c - b) (drop a xs)
    ∙ ap (λ (w : List X). take (b - a) (drop a xs) ++ take (c - b) w) (drop-drop (b - a) a xs ∙ ap (λ (k : ℕ). drop k xs) two)

-- one number more
pub one_more_of : (n : ℕ) (old now new : List ℕ) (k : ℕ) → now ≡ old ++ replicate k n → new ≡ now ++ n ∷ [] → new ≡ old ++ replicate (k + 1) n
one_more_of n old now new k e f =
    f ∙ ap (λ (w : List ℕ). w ++ n ∷ []) e ∙ append_assoc old (replicate k n) (n ∷ []) ∙ ap (λ (w : List ℕ). old ++ w) (replicate-append-replicate k 1 n)

-- ---- what holds of each item

pub all_none : {X : Type 0} (P : X → Type 0) → All P []
all_none {X} P k d lt = absurd (omega arith)

pub all_after : {X : Type 0} (P : X → Type 0) (x : X) (xs : List X) → All P (x ∷ xs) → All P xs
all_after {X} P x xs h k d lt = h (suc k) d (omega arith)

pub all_both : {X : Type 0} (P : X → Type 0) (xs ys : List X) → All P xs → All P ys → All P (xs ++ ys)
all_both {X} P [] ys h k = k
all_both {X} P (x ∷ xs) ys h k = all_more P x (xs ++ ys) (h 0 x (omega arith)) (all_both P xs ys (all_after P x xs h) k)

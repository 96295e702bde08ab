-- Lists side by side, and what a function gives of the numbers from one on.
use Rattle.std.proofs.Common.{◌≡◌, ℕ, zero, suc, ◌+◌, List, [], ◌∷◌, ◌++◌, length, map, Some, slice_get, refl, sym, ap, subst, ◌∙◌, inl, inr, arith}
use Rattle.std.specs.Prelude.{slice_index_or}
use Rattle.std.specs.List.{range_with_len}
use Rattle.std.proofs.lemmas.List.{length-append}
use Rattle.dwz_model.specs.Lists.{In, NoneTwice, Nth}
use Rattle.dwz_model.proofs.ListFacts.{in_map}
use Rattle.dwz_def_cross.specs.CrossSame.{EachTwo}

-- ---- lists side by side

pub two_long : {X Y : Type 0} (R : X → Y → Type 0) (xs : List X) (ys : List Y) → EachTwo R xs ys → length xs ≡ length ys
two_long R [] [] h = refl
two_long R (x ∷ xs) (y ∷ ys) h = ap suc (two_long R xs ys h.1)
two_long R _ _ h = absurd h

pub two_append : {X Y : Type 0} (R : X → Y → Type 0) (xs others : List X) (ys more : List Y) → EachTwo R xs ys → EachTwo R others more → EachTwo R (xs ++ others) (ys ++ more)
two_append R [] others [] more h j = j
two_append R (x ∷ xs) others (y ∷ ys) more h j = (h.0, two_append R xs others ys more h.1 j)
two_append R [] others (y ∷ ys) more h j = absurd h
two_append R (x ∷ xs) others [] more h j = absurd h

pub two_at : {X Y : Type 0} (R : X → Y → Type 0) (xs : List X) (ys : List Y) (k : ℕ) (x : X) (y : Y) → EachTwo R xs ys → slice_get xs k ≡ Some x → slice_get ys k ≡ Some y → R x y
two_at R [] [] k x y h e f = absurd cc
two_at {X} {Y} R (a ∷ xs) (b ∷ ys) zero x y h e f =
    let p : a ≡ x = cc in
    let q : b ≡ y = cc in
    subst (λ (v : X). R v y) p (subst (λ (w : Y). R a w) q h.0)
two_at R (a ∷ xs) (b ∷ ys) (suc k) x y h e f = two_at R xs ys k x y h.1 e f
two_at R [] (b ∷ ys) k x y h e f = absurd h
two_at R (a ∷ xs) [] k x y h e f = absurd h

-- what is beside an item of the second list
pub two_beside : {X Y : Type 0} (R : X → Y → Type 0) (xs : List X) (ys : List Y) → EachTwo R xs ys → (y : Y) → In y ys → (x : X) × In x xs × R x y
two_beside R [] [] h y is = absurd is
two_beside {X} {Y} R (a ∷ xs) (b ∷ ys) h y (inl e) = (a, inl refl, subst (λ (w : Y). R a w) e h.0)
two_beside R (a ∷ xs) (b ∷ ys) h y (inr r) = let o = two_beside R xs ys h.1 y r in (o.0, inr o.1, o.2)
two_beside R [] (b ∷ ys) h y is = absurd h
two_beside R (a ∷ xs) [] h y is = absurd h

pub two_within : {X Y : Type 0} (R S : X → Y → Type 0) (xs : List X) (ys : List Y) → ((x : X) (y : Y) → In y ys → R x y → S x y) → EachTwo R xs ys → EachTwo S xs ys
two_within R S [] [] t h = tt
two_within R S (x ∷ xs) (y ∷ ys) t h = (t x y (inl refl) h.0, two_within R S xs ys (λ a b i. t a b (inr i)) h.1)
two_within R S [] (y ∷ ys) t h = absurd h
two_within R S (x ∷ xs) [] t h = absurd h

-- the same of what is made of the first ones
pub two_mapped : {X Y Z : Type 0} (f : X → Y) (R : Y → Z → Type 0) (xs : List X) (zs : List Z) → EachTwo (λ x z. R (f x) z) xs zs → EachTwo R (map f xs) zs
two_mapped f R [] [] h = tt
two_mapped f R (x ∷ xs) (z ∷ zs) h = (h.0, two_mapped f R xs zs h.1)
two_mapped f R [] (z ∷ zs) h = absurd h
two_mapped f R (x ∷ xs) [] h = absurd h

-- ---- numbers from one on

-- the function gives of the numbers from that one on these, in order
abbrev pub Gives : {Y : Type 0} → (ℕ → Y) → ℕ → List Y → Type 0
Gives f k [] = Unit {0}
Gives f k (y ∷ ys) = (f k ≡ y) × Gives f (suc k) ys

later : {Y : Type 0} (f : ℕ → Y) (k : ℕ) (ys : List Y) → Gives (λ n. f (suc n)) k ys → Gives f (suc k) ys
later f k [] h = tt
later f k (y ∷ ys) h = (h.0, later f (suc k) ys h.1)

pub gives_self : {Y : Type 0} (ys : List Y) (d : Y) → Gives (λ n. slice_index_or ys n d) 0 ys
gives_self [] d = tt
gives_self (y ∷ ys) d = (refl, later (λ n. slice_index_or (y ∷ ys) n d) 0 ys (gives_self ys d))

pub gives_as : {Y : Type 0} (f : ℕ → Y) (k m : ℕ) (ys : List Y) → k ≡ m → Gives f k ys → Gives f m ys
gives_as f k m ys e h = subst (λ (n : ℕ). Gives f n ys) e h

pub gives_left : {Y : Type 0} (f : ℕ → Y) (k : ℕ) (xs ys : List Y) → Gives f k (xs ++ ys) → Gives f k xs
gives_left f k [] ys h = tt
gives_left f k (x ∷ xs) ys h = (h.0, gives_left f (suc k) xs ys h.1)

pub gives_right : {Y : Type 0} (f : ℕ → Y) (k : ℕ) (xs ys : List Y) → Gives f k (xs ++ ys) → Gives f (k + length xs) ys
gives_right f k [] ys h = gives_as f k (k + 0) ys (omega arith) h
gives_right f k (x ∷ xs) ys h = gives_as f (suc k + length xs) (k + suc (length xs)) ys (omega arith) (gives_right f (suc k) xs ys h.1)

-- of three lists, one behind the other
pub gives_three : {Y : Type 0} (f : ℕ → Y) (k : ℕ) (xs ys zs : List Y) → Gives f k (xs ++ ys ++ zs) → Gives f k xs × Gives f (k + length xs) ys × Gives f (k + length xs + length ys) zs
gives_three f k xs ys zs h =
    let front = gives_left f k (xs ++ ys) zs h in
    let long = length-append xs ys in
    let end : k + length (xs ++ ys) ≡ k + length xs + length ys = omega (arith, long) in
    (gives_left f k xs ys front, gives_right f k xs ys front, gives_as f (k + length (xs ++ ys)) (k + length xs + length ys) zs end (gives_right f k (xs ++ ys) zs h))

pub gives_append : {Y : Type 0} (f : ℕ → Y) (k : ℕ) (xs ys : List Y) → Gives f k xs → Gives f (k + length xs) ys → Gives f k (xs ++ ys)
gives_append f k [] ys h j = gives_as f (k + 0) k ys (omega arith) j
gives_append f k (x ∷ xs) ys h j = (h.0, gives_append f (suc k) xs ys h.1 (gives_as f (k + suc (length xs)) (suc k + length xs) ys (omega arith) j))

pub gives_at : {Y : Type 0} (f : ℕ → Y) (k i : ℕ) (ys : List Y) (y : Y) → Gives f k ys → slice_get ys i ≡ Some y → f (k + i) ≡ y
gives_at f k i [] y h e = absurd cc
gives_at f k zero (x ∷ ys) y h e = let same : x ≡ y = cc in let z : k + 0 ≡ k = omega arith in ap f z ∙ h.0 ∙ same
gives_at f k (suc i) (x ∷ ys) y h e = let z : k + suc i ≡ suc k + i = omega arith in ap f z ∙ gives_at f (suc k) i ys y h.1 e

-- of the item with a number, where the function gives what is made of them
pub gives_nth : {X Y : Type 0} (f : ℕ → Y) (g : X → Y) (k n : ℕ) (xs : List X) (x : X) → Gives f k (map g xs) → Nth k xs n x → f n ≡ g x
gives_nth f g k n [] x h is = absurd is
gives_nth f g k n (y ∷ xs) x h (inl e) = ap f (sym e.0) ∙ h.0 ∙ ap g e.1
gives_nth f g k n (y ∷ xs) x h (inr r) = gives_nth f g (suc k) n xs x h.1 r

-- what is made of what it gives
pub gives_map : {X Y : Type 0} (g : X → Y) (f : ℕ → X) (k : ℕ) (xs : List X) → Gives f k xs → Gives (λ n. g (f n)) k (map g xs)
gives_map g f k [] h = tt
gives_map g f k (x ∷ xs) h = (ap g h.0, gives_map g f (suc k) xs h.1)

-- and what stands beside it
pub gives_two : {X Y : Type 0} (g : X → Y) (f : ℕ → X) (k : ℕ) (ys : List Y) (xs : List X) → EachTwo (λ y x. g x ≡ y) ys xs → Gives f k xs → Gives (λ n. g (f n)) k ys
gives_two g f k [] [] h j = tt
gives_two g f k (y ∷ ys) (x ∷ xs) h j = (ap g j.0 ∙ h.0, gives_two g f (suc k) ys xs h.1 j.1)
gives_two g f k [] (x ∷ xs) h j = absurd h
gives_two g f k (y ∷ ys) [] h j = absurd h

pub gives_range : {Y : Type 0} (f : ℕ → Y) (k : ℕ) (ys : List Y) → Gives f k ys → map f (range_with_len k (length ys)) ≡ ys
gives_range f k [] h = refl
gives_range f k (y ∷ ys) h =
    let one : k + 1 ≡ suc k = omega arith in
    let rest = ap (λ (n : ℕ). map f (range_with_len n (length ys))) one ∙ gives_range f (suc k) ys h.1 in
    λ i. h.0 i ∷ rest i

-- ---- items by number

pub got_of : {X : Type 0} (xs : List X) (x : X) → In x xs → (k : ℕ) × (slice_get xs k ≡ Some x)
got_of [] x is = absurd is
got_of (y ∷ xs) x (inl e) = (0, ap Some e)
got_of (y ∷ xs) x (inr r) = let o = got_of xs x r in (suc o.0, o.1)

-- where none stands twice by what they have, that tells which it is
pub one_by : {X K : Type 0} (f : X → K) (xs : List X) (x y : X) → NoneTwice (map f xs) → In x xs → In y xs → f x ≡ f y → x ≡ y
one_by f [] x y h is js e = absurd is
one_by f (z ∷ xs) x y h (inl a) (inl b) e = sym a ∙ b
one_by {X} {K} f (z ∷ xs) x y h (inl a) (inr s) e = absurd (h.0 (subst (λ (k : K). In k (map f xs)) (sym (ap f a ∙ e)) (in_map f y xs s)))
one_by {X} {K} f (z ∷ xs) x y h (inr r) (inl b) e = absurd (h.0 (subst (λ (k : K). In k (map f xs)) (e ∙ ap f (sym b)) (in_map f x xs r)))
one_by f (z ∷ xs) x y h (inr r) (inr s) e = one_by f xs x y h.1 r s e

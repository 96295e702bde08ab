-- Members of lists: of joined, mapped and filtered ones; the n-th; each pair.
use Rattle.std.proofs.Common.{◌≡◌, ℕ, suc, ◌≤◌, ◌||◌, cond, Bool, true, false, List, [], ◌∷◌, ◌++◌, map, refl, sym, ap, subst, ◌∙◌, arith, inl, inr, eq-eqb, ◌==◌, if◌then◌else◌, ◌+◌, ◌<◌, length}
use Rattle.std.proofs.Common.{zero, Some, get_or}
use Rattle.std.specs.List.{filter, list_any}
use Rattle.std.specs.Prelude.{slice_get}
use Rattle.dwz_model.specs.Lists.{Each, In}
use Rattle.dwz_model.proofs.ListFacts.{in_left}
use Rattle.dwz_model.specs.Lists.{EachPair, Nth}

-- ---- in joined and mapped lists

-- what a member of a mapped list comes from
pub record From {X Y : Type 0} (f : X → Y) (xs : List X) (y : Y) : Type 0 where
  pub source : X
  pub there : In source xs
  pub is : f source ≡ y

pub in_map_from : {X Y : Type 0} (f : X → Y) (y : Y) (xs : List X) → In y (map f xs) → From f xs y
in_map_from f y [] h = absurd h
in_map_from f y (x ∷ xs) (inl e) = record { source = x; there = inl refl; is = e }
in_map_from f y (x ∷ xs) (inr r) = let o = in_map_from f y xs r in record { source = o.source; there = inr o.there; is = o.is }

-- ---- numbers, by a test

-- ---- in filtered lists

keep : {X : Type 0} (b : Bool) (x y : X) (xs : List X) → In x xs → In x (cond b (y ∷ xs) xs)
keep true x y xs h = inr h
keep false x y xs h = h

pub in_filter : {X : Type 0} (p : X → Bool) (x : X) (xs : List X) → In x xs → p x ≡ true → In x (filter p xs)
in_filter p x [] h e = absurd h
in_filter {X} p x (y ∷ xs) (inl s) e = let f : p y ≡ true = ap p s ∙ e in subst (λ (b : Bool). In x (cond b (y ∷ filter p xs) (filter p xs))) (sym f) (inl s)
in_filter p x (y ∷ xs) (inr r) e = keep (p y) x y (filter p xs) (in_filter p x xs r e)

pub in_filter_from : {X : Type 0} (p : X → Bool) (x : X) (xs : List X) → In x (filter p xs) → In x xs × (p x ≡ true)
in_filter_from p x [] h = absurd h
in_filter_from {X} p x (y ∷ xs) h = go (in_filter_from p x xs) (p y) refl h where
  go : (In x (filter p xs) → In x xs × (p x ≡ true)) → (b : Bool) → p y ≡ b → In x (cond b (y ∷ filter p xs) (filter p xs)) → In x (y ∷ xs) × (p x ≡ true)
  go more true q (inl e) = (inl e, ap p (sym e) ∙ q)
  go more true q (inr r) = let o = more r in (inr o.0, o.1)
  go more false q r = let o = more r in (inr o.0, o.1)

pub filter_same : {X : Type 0} (p q : X → Bool) (xs : List X) → ((x : X) → p x ≡ q x) → filter p xs ≡ filter q xs
filter_same p q [] h = refl
filter_same p q (x ∷ xs) h = rw (h x, filter_same p q xs h) refl

-- ---- each

pub each_in : {X : Type 0} (P : X → Type 0) (x : X) (xs : List X) → Each P xs → In x xs → P x
each_in P x [] h is = absurd is
each_in P x (y ∷ xs) h (inl e) = subst P e h.0
each_in P x (y ∷ xs) h (inr r) = each_in P x xs h.1 r

pub each_of : {X : Type 0} (P : X → Type 0) (xs : List X) → ((x : X) → In x xs → P x) → Each P xs
each_of P [] h = tt
each_of P (x ∷ xs) h = (h x (inl refl), each_of P xs (λ y is. h y (inr is)))

pub each_more : {X : Type 0} (P Q : X → Type 0) (xs : List X) → ((x : X) → P x → Q x) → Each P xs → Each Q xs
each_more P Q [] f h = tt
each_more P Q (x ∷ xs) f h = (f x h.0, each_more P Q xs f h.1)

pub each_append : {X : Type 0} (P : X → Type 0) (xs ys : List X) → Each P xs → Each P ys → Each P (xs ++ ys)
each_append P [] ys h k = k
each_append P (x ∷ xs) ys h k = (h.0, each_append P xs ys h.1 k)

pub each_split : {X : Type 0} (P : X → Type 0) (xs ys : List X) → Each P (xs ++ ys) → Each P xs × Each P ys
each_split P [] ys h = (tt, h)
each_split P (x ∷ xs) ys h = (let r = each_split P xs ys h.1 in ((h.0, r.0), r.1))

pub each_filter : {X : Type 0} (P : X → Type 0) (p : X → Bool) (xs : List X) → Each P xs → Each P (filter p xs)
each_filter P p xs h = each_of P (filter p xs) (λ x is. each_in P x xs h (in_filter_from p x xs is).0)

-- ---- each pair

pub pair_append : {X : Type 0} (R : X → X → Type 0) (xs ys : List X) → EachPair R xs → EachPair R ys → ((x y : X) → In x xs → In y ys → R x y) → EachPair R (xs ++ ys)
pair_append R [] ys h k f = k
pair_append R (x ∷ xs) ys h k f = (each_append (R x) xs ys h.0 (each_of (R x) ys (λ y. f x y (inl refl))), pair_append R xs ys h.1 k (λ a b p. f a b (inr p)))

pub pair_left : {X : Type 0} (R : X → X → Type 0) (xs ys : List X) → EachPair R (xs ++ ys) → EachPair R xs
pair_left R [] ys h = tt
pair_left R (x ∷ xs) ys h = (each_of (R x) xs (λ z is. each_in (R x) z (xs ++ ys) h.0 (in_left z xs ys is)), pair_left R xs ys h.1)

pub pair_right : {X : Type 0} (R : X → X → Type 0) (xs ys : List X) → EachPair R (xs ++ ys) → EachPair R ys
pair_right R [] ys h = h
pair_right R (x ∷ xs) ys h = pair_right R xs ys h.1

pub pair_filter : {X : Type 0} (R : X → X → Type 0) (p : X → Bool) (xs : List X) → EachPair R xs → EachPair R (filter p xs)
pair_filter R p [] h = tt
pair_filter {X} R p (x ∷ xs) h = go (pair_filter R p xs h.1) (p x) where
  go : EachPair R (filter p xs) → (b : Bool) → EachPair R (cond b (x ∷ filter p xs) (filter p xs))
  go more true = (each_filter (R x) p xs h.0, more)
  go more false = more

-- from R of two members in order, S of what they become
pub pair_map : {X Y : Type 0} (R : X → X → Type 0) (S : Y → Y → Type 0) (f : X → Y) (xs : List X) → EachPair R xs → ((x y : X) → In x xs → In y xs → R x y → S (f x) (f y)) → EachPair S (map f xs)
pair_map R S f [] h k = tt
pair_map {X} {Y} R S f (x ∷ xs) h k = (
  each_of (S (f x)) (map f xs) (λ y is. (let o = in_map_from f y xs is in subst (S (f x)) o.is (k x o.source (inl refl) (inr o.there) (each_in (R x) o.source xs h.0 o.there)))),
  pair_map R S f xs h.1 (λ a b p q. k a b (inr p) (inr q)),
)

pub pair_more : {X : Type 0} (R S : X → X → Type 0) (xs : List X) → EachPair R xs → ((x y : X) → In x xs → In y xs → R x y → S x y) → EachPair S xs
pair_more R S [] h k = tt
pair_more R S (x ∷ xs) h k = (each_of (S x) xs (λ y is. k x y (inl refl) (inr is) (each_in (R x) y xs h.0 is)), pair_more R S xs h.1 (λ a b p q. k a b (inr p) (inr q)))

pub pair_one : {X : Type 0} (R : X → X → Type 0) (xs : List X) (x y : X) → EachPair R xs → In x xs → In y xs → (R x y → ⊥) → (R y x → ⊥) → x ≡ y
pair_one R [] x y h a b f g = absurd a
pair_one R (z ∷ zs) x y h (inl a) (inl b) f g = sym a ∙ b
pair_one {X} R (z ∷ zs) x y h (inl a) (inr r) f g = absurd (f (subst (λ (w : X). R w y) a (each_in (R z) y zs h.0 r)))
pair_one {X} R (z ∷ zs) x y h (inr q) (inl b) f g = absurd (g (subst (λ (w : X). R w x) b (each_in (R z) x zs h.0 q)))
pair_one R (z ∷ zs) x y h (inr q) (inr r) f g = pair_one R zs x y h.1 q r f g

-- ---- the n-th

pub nth_in : {X : Type 0} (s : ℕ) (xs : List X) (n : ℕ) (x : X) → Nth s xs n x → In x xs
nth_in s [] n x h = absurd h
nth_in s (y ∷ ys) n x (inl e) = inl e.1
nth_in s (y ∷ ys) n x (inr r) = inr (nth_in (suc s) ys n x r)

pub record Found {X : Type 0} (s : ℕ) (xs : List X) (x : X) : Type 0 where
  pub number : ℕ
  pub nth : Nth s xs number x

pub in_nth : {X : Type 0} (s : ℕ) (xs : List X) (x : X) → In x xs → Found s xs x
in_nth s [] x h = absurd h
in_nth s (y ∷ ys) x (inl e) = record { number = s; nth = inl (refl, e) }
in_nth s (y ∷ ys) x (inr r) = let o = in_nth (suc s) ys x r in record { number = o.number; nth = inr o.nth }

pub nth_from : {X : Type 0} (s : ℕ) (xs : List X) (n : ℕ) (x : X) → Nth s xs n x → s ≤ n
nth_from s [] n x h = absurd h
nth_from s (y ∷ ys) n x (inl e) = omega (arith, e.0)
nth_from s (y ∷ ys) n x (inr r) = omega (arith, nth_from (suc s) ys n x r)

pub nth_one : {X : Type 0} (s : ℕ) (xs : List X) (n : ℕ) (x y : X) → Nth s xs n x → Nth s xs n y → x ≡ y
nth_one s [] n x y h k = absurd h
nth_one s (z ∷ zs) n x y (inl a) (inl b) = sym a.1 ∙ b.1
nth_one s (z ∷ zs) n x y (inl a) (inr r) = absurd (omega (arith, a.0, nth_from (suc s) zs n y r))
nth_one s (z ∷ zs) n x y (inr q) (inl b) = absurd (omega (arith, b.0, nth_from (suc s) zs n x q))
nth_one s (z ∷ zs) n x y (inr q) (inr r) = nth_one (suc s) zs n x y q r

-- where no two are related both to one thing, a thing is at one place
pub nth_pair : {X : Type 0} (R : X → X → Type 0) (s : ℕ) (xs : List X) (m n : ℕ) (x y : X) → EachPair R xs → Nth s xs m x → Nth s xs n y → (R x y → ⊥) → (R y x → ⊥) → m ≡ n
nth_pair R s [] m n x y h a b f g = absurd a
nth_pair R s (z ∷ zs) m n x y h (inl a) (inl b) f g = sym a.0 ∙ b.0
nth_pair {X} R s (z ∷ zs) m n x y h (inl a) (inr r) f g = absurd (f (subst (λ (w : X). R w y) a.1 (each_in (R z) y zs h.0 (nth_in (suc s) zs n y r))))
nth_pair {X} R s (z ∷ zs) m n x y h (inr q) (inl b) f g = absurd (g (subst (λ (w : X). R w x) b.1 (each_in (R z) x zs h.0 (nth_in (suc s) zs m x q))))
nth_pair R s (z ∷ zs) m n x y h (inr q) (inr r) f g = nth_pair R (suc s) zs m n x y h.1 q r f g

-- ---- tests of some

pub any_true : {X : Type 0} (p : X → Bool) (x : X) (xs : List X) → In x xs → p x ≡ true → list_any p xs ≡ true
any_true p x [] h e = absurd h
any_true p x (y ∷ xs) (inl s) e = let f : p y ≡ true = ap p s ∙ e in rw f refl
any_true p x (y ∷ xs) (inr r) e = go (p y) (any_true p x xs r e) where
  go : (b : Bool) → list_any p xs ≡ true → (b || list_any p xs) ≡ true
  go true h = refl
  go false h = h

pub record Passes {X : Type 0} (p : X → Bool) (xs : List X) : Type 0 where
  pub one : X
  pub there : In one xs
  pub passes : p one ≡ true

pub any_from : {X : Type 0} (p : X → Bool) (xs : List X) → list_any p xs ≡ true → Passes p xs
any_from p [] e = absurd cc
any_from p (x ∷ xs) e = go (any_from p xs) (p x) refl e where
  go : (list_any p xs ≡ true → Passes p xs) → (b : Bool) → p x ≡ b → (b || list_any p xs) ≡ true → Passes p (x ∷ xs)
  go more true q h = record { one = x; there = inl refl; passes = q }
  go more false q h = let o = more h in record { one = o.one; there = inr o.there; passes = o.passes }

pub any_false : {X : Type 0} (p : X → Bool) (x : X) (xs : List X) → In x xs → list_any p xs ≡ false → p x ≡ false
any_false p x xs is e = go (p x) refl where
  go : (b : Bool) → p x ≡ b → b ≡ false
  go true q = let h = any_true p x xs is q in absurd cc
  go false q = refl

pub nth_below : {X : Type 0} (s : ℕ) (xs : List X) (n : ℕ) (x : X) → Nth s xs n x → n < s + length xs
nth_below s [] n x h = absurd h
nth_below s (y ∷ xs) n x (inl e) = (let q = e.0 in omega arith)
nth_below s (y ∷ xs) n x (inr later) = (let q = nth_below (suc s) xs n x later in omega arith)

pub nth_of : {X : Type 0} (s : ℕ) (xs : List X) (g : ℕ) (x : X) → slice_get xs g ≡ Some x → Nth s xs (s + g) x
nth_of s [] g x e = absurd cc
nth_of s (y ∷ xs) zero x e = inl (omega arith, cc)
nth_of {X} s (y ∷ xs) (suc g) x e = inr (let n : suc s + g ≡ s + suc g = omega arith in subst (λ (k : ℕ). Nth (suc s) xs k x) n (nth_of (suc s) xs g x e))

pub nth_get : {X : Type 0} (s : ℕ) (xs : List X) (n k : ℕ) (x : X) → Nth s xs n x → n ≡ s + k → slice_get xs k ≡ Some x
nth_get s [] n k x h e = absurd h
nth_get s (y ∷ xs) n zero x (inl h) e = ap (λ w. Some w) h.1
nth_get s (y ∷ xs) n (suc k) x (inl h) e = absurd (let same = h.0 in omega arith)
nth_get s (y ∷ xs) n zero x (inr h) e = absurd (let high = nth_from (suc s) xs n x h in omega arith)
nth_get s (y ∷ xs) n (suc k) x (inr h) e = nth_get (suc s) xs n k x h (omega arith)

-- each of them, by its number
pub each_below : (P : List ℕ → Type 0) (xs : List (List ℕ)) → ((k : ℕ) → k < length xs → P (get_or xs k [])) → Each P xs
each_below P [] are = tt
each_below P (x ∷ xs) are = (are zero (omega arith), each_below P xs (λ k less. are (suc k) (omega arith)))

-- Lists in which nothing stands twice.
use Rattle.std.proofs.Common.{◌≡◌, ℕ, ◌<◌, List, [], ◌∷◌, ◌++◌, map, refl, sym, subst, arith, inl, inr}
use Rattle.dwz_model.specs.Lists.{In}
use Rattle.dwz_model.proofs.ListFacts.{in_cases, in_left, in_right}
use Rattle.dwz_model.specs.Lists.{NoneTwice, Rising}
use Rattle.dwz_model.proofs.Members.{each_in, in_map_from}

pub none_append : {X : Type 0} (xs ys : List X) → NoneTwice xs → NoneTwice ys → ((x : X) → In x xs → In x ys → ⊥) → NoneTwice (xs ++ ys)
none_append [] ys h k f = k
none_append (x ∷ xs) ys h k f = ((λ is. elim (in_cases x xs ys is) [ inl a ↦ h.0 a | inr b ↦ f x (inl refl) b ]), none_append xs ys h.1 k (λ y a b. f y (inr a) b))

pub none_map : {X Y : Type 0} (f : X → Y) → ((a b : X) → f a ≡ f b → a ≡ b) → (xs : List X) → NoneTwice xs → NoneTwice (map f xs)
none_map f one [] h = tt
none_map {X} f one (x ∷ xs) h = ((λ is. let o = in_map_from f (f x) xs is in h.0 (subst (λ (w : X). In w xs) (one o.source x o.is) o.there)), none_map f one xs h.1)

pub rising_none : (ns : List ℕ) → Rising ns → NoneTwice ns
rising_none [] h = tt
rising_none (n ∷ ns) h = ((λ is. let lt = each_in (λ m. n < m) n ns h.0 is in omega (arith, lt)), rising_none ns h.1)

pub none_left : {X : Type 0} (xs ys : List X) → NoneTwice (xs ++ ys) → NoneTwice xs
none_left [] ys h = tt
none_left (x ∷ xs) ys h = ((λ is. h.0 (in_left x xs ys is)), none_left xs ys h.1)

pub none_right : {X : Type 0} (xs ys : List X) → NoneTwice (xs ++ ys) → NoneTwice ys
none_right [] ys h = h
none_right (x ∷ xs) ys h = none_right xs ys h.1

pub none_both : {X : Type 0} (xs ys : List X) → NoneTwice (xs ++ ys) → (k : X) → In k xs → In k ys → ⊥
none_both [] ys h k a b = a
none_both {X} (x ∷ xs) ys h k (inl e) b = h.0 (in_right x xs ys (subst (λ (w : X). In w ys) (sym e) b))
none_both (x ∷ xs) ys h k (inr r) b = none_both xs ys h.1 k r b

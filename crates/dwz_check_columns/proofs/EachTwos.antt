-- Lists of which each two items are related, by their places.
use Rattle.std.proofs.Common.{◌≡◌, ℕ, suc, List, [], ◌∷◌, length, map, Some, slice_get, refl, arith}
use Rattle.dwz_def_cross.specs.CrossSame.{EachTwo}

pub two_of : {X Y : Type 0} (R : X → Y → Type 0) (xs : List X) (ys : List Y) → length xs ≡ length ys → ((k : ℕ) (x : X) (y : Y) → slice_get xs k ≡ Some x → slice_get ys k ≡ Some y → R x y)
    → EachTwo R xs ys
two_of R [] [] len h = tt
two_of R [] (y ∷ ys) len h = absurd (omega (arith, len))
two_of R (x ∷ xs) [] len h = absurd (omega (arith, len))
two_of R (x ∷ xs) (y ∷ ys) len h = (h 0 x y refl refl, two_of R xs ys (omega (arith, len)) (λ k a b p q. h (suc k) a b p q))

-- lists have one image where each two of their items have
pub map_two : {X Y Z : Type 0} (f : X → Z) (g : Y → Z) (xs : List X) (ys : List Y) → length xs ≡ length ys
    → ((k : ℕ) (x : X) (y : Y) → slice_get xs k ≡ Some x → slice_get ys k ≡ Some y → f x ≡ g y) → map f xs ≡ map g ys
map_two f g [] [] len h = refl
map_two f g [] (y ∷ ys) len h = absurd (omega (arith, len))
map_two f g (x ∷ xs) [] len h = absurd (omega (arith, len))
map_two f g (x ∷ xs) (y ∷ ys) len h =
    let first : f x ≡ g y = h 0 x y refl refl in
    let rest = map_two f g xs ys (omega (arith, len)) (λ k a b p q. h (suc k) a b p q) in
    (λ i. first i ∷ rest i)

-- Numbers that are appended, one value and one entry after the other.
use Rattle.std.proofs.Common.{◌≡◌, ℕ, ◌+◌, ◌≤◌, List, ◌++◌, length, take, Some, slice_get, sym, ap, ◌∙◌}
use Rattle.std.specs.List.{flat_map}
use Rattle.std.proofs.lemmas.List.{append_assoc, take_all}
use Rattle.dwz_encode_texts.proofs.TextSteps.{flat_more}

pub items_more : {X : Type 0} (f : X → List ℕ) (xs : List X) (j : ℕ) (x : X) (old now new : List ℕ) → slice_get xs j ≡ Some x
    → now ≡ old ++ flat_map f (take j xs) → new ≡ now ++ f x → new ≡ old ++ flat_map f (take (j + 1) xs)
items_more f xs j x old now new at is step =
    step ∙ ap (λ (w : List ℕ). w ++ f x) is ∙ append_assoc old (flat_map f (take j xs)) (f x)
    ∙ ap (λ (w : List ℕ). old ++ w) (sym (flat_more f xs j x at))

pub items_all : {X : Type 0} (f : X → List ℕ) (xs : List X) (j : ℕ) (old now : List ℕ) → length xs ≤ j → now ≡ old ++ flat_map f (take j xs)
    → now ≡ old ++ flat_map f xs
items_all {X} f xs j old now le is = is ∙ ap (λ (w : List X). old ++ flat_map f w) (take_all j xs le)

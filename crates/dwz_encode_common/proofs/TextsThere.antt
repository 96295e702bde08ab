-- A text that is used is among the texts, each once.
use Rattle.std.proofs.Common.{◌≡◌, ℕ, Bool, true, false, List, [], ◌∷◌, ◌++◌, refl, sym, ap, subst, inl, inr}
use Rattle.std.specs.List.{flat_map}
use Rattle.std.proofs.lemmas.List.Concat.{flat_map-cons}
use Rattle.dwz_def_reading.specs.Lists.{In}
use Rattle.dwz_def_reading.proofs.ListFacts.{in_left, in_right}
use Rattle.dwz_def_tops.specs.Spots.{same_numbers}
use Rattle.dwz_def_tops.proofs.SpotLemmas.{numbers_same}
use Rattle.dwz_def_encoding.specs.Placing.{add_unless, has_text, with_common_text}
use Rattle.dwz_encode_common.specs.Gathered.{with_all}

-- among these, or one of the others
abbrev either : Bool → Bool → Bool
either b rest = elim b as (λ _. Bool) [ true ↦ true | false ↦ rest ]

has_front : (xs ys : List (List ℕ)) (t : List ℕ) → has_text xs t ≡ true → has_text (xs ++ ys) t ≡ true
unfolding has_text
has_front [] ys t h = absurd cc
has_front (x ∷ xs) ys t h = go (has_front xs ys t) (same_numbers x t) h where
  go : (has_text xs t ≡ true → has_text (xs ++ ys) t ≡ true) → (b : Bool) → either b (has_text xs t) ≡ true
      → either b (has_text (xs ++ ys) t) ≡ true
  go rest true h = refl
  go rest false h = rest h

has_last : (xs : List (List ℕ)) (t : List ℕ) → has_text (xs ++ t ∷ []) t ≡ true
unfolding has_text
has_last [] t = ap (λ (b : Bool). either b false) (numbers_same t)
has_last (x ∷ xs) t = go (has_last xs t) (same_numbers x t) where
  go : has_text (xs ++ t ∷ []) t ≡ true → (b : Bool) → either b (has_text (xs ++ t ∷ []) t) ≡ true
  go rest true = refl
  go rest false = rest

has_added : (found : List (List ℕ)) (t : List ℕ) → has_text (with_common_text found t) t ≡ true
has_added found t = go (has_text found t) refl where
  go : (b : Bool) → has_text found t ≡ b → has_text (add_unless b found t) t ≡ true
  go true e = e
  go false e = has_last found t

has_kept : (found : List (List ℕ)) (x t : List ℕ) → has_text found t ≡ true → has_text (with_common_text found x) t ≡ true
has_kept found x t h = go (has_text found x) where
  go : (b : Bool) → has_text (add_unless b found x) t ≡ true
  go true = h
  go false = has_front found (x ∷ []) t h

has_all : (texts found : List (List ℕ)) (t : List ℕ) → has_text found t ≡ true → has_text (with_all found texts) t ≡ true
has_all [] found t h = h
has_all (x ∷ texts) found t h = has_all texts (with_common_text found x) t (has_kept found x t h)

pub in_all : (texts found : List (List ℕ)) (t : List ℕ) → In t texts → has_text (with_all found texts) t ≡ true
in_all [] found t h = absurd h
in_all (x ∷ texts) found t (inl same) =
    has_all texts (with_common_text found x) t (subst (λ (w : List ℕ). has_text (with_common_text found x) w ≡ true) same (has_added found x))
in_all (x ∷ texts) found t (inr h) = in_all texts (with_common_text found x) t h

-- what one of them gives
pub in_flat : {X Y : Type 0} (f : X → List Y) (xs : List X) (x : X) (y : Y) → In x xs → In y (f x) → In y (flat_map f xs)
in_flat f [] x y h there = absurd h
in_flat {X} {Y} f (z ∷ xs) x y (inl same) there =
    subst (λ (w : List Y). In y w) (sym (flat_map-cons f z xs))
    (in_left y (f z) (flat_map f xs) (subst (λ (w : X). In y (f w)) (sym same) there))
in_flat {X} {Y} f (z ∷ xs) x y (inr h) there =
    subst (λ (w : List Y). In y w) (sym (flat_map-cons f z xs)) (in_right y (f z) (flat_map f xs) (in_flat f xs x y h there))

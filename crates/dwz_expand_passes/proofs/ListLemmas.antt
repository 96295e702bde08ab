-- Ranges of lists: what is in them, and what becomes of them along a function.
use Rattle.std.proofs.Common.{◌≡◌, ℕ, ◌-◌, List, [], ◌∷◌, ◌++◌, drop, inl, inr, map, take, refl, sym, ap, subst, ◌∙◌}
use Rattle.std.specs.List.{drop-map, flat_map}
use Rattle.std.proofs.lemmas.List.{map-append, take-append-drop, take-map}
use Rattle.std.proofs.lemmas.List.Concat.{flat_map-cons}
use Rattle.dwz_model.proofs.ListFacts.{in_left, in_map, in_right}
use Rattle.dwz_model.proofs.Members.{each_append, each_of}
use Rattle.dwz_model.specs.Lists.{Each, In, NoneTwice}
use Rattle.dwz_expand_sources.specs.declared.sources.SourceRange.{SourceRange}
use Rattle.dwz_expand_sources.specs.Sources.{in_range}

module _ {X : Type 0} where
  in_take : (n : ℕ) (x : X) (xs : List X) → In x (take n xs) → In x xs
  in_take n x xs h = subst (In x) (take-append-drop n xs) (in_left x (take n xs) (drop n xs) h)

  in_drop : (n : ℕ) (x : X) (xs : List X) → In x (drop n xs) → In x xs
  in_drop n x xs h = subst (In x) (take-append-drop n xs) (in_right x (take n xs) (drop n xs) h)

  -- what is in ranges of a list is in the list
  pub ranges_in : (all : List X) (rs : List SourceRange) → Each (λ x. In x all) (flat_map (in_range all) rs)
  ranges_in all [] = tt
  ranges_in all (r ∷ rs) =
      let first = each_of (λ x. In x all) (in_range all r) (λ x h. in_drop r.first x all (in_take (r.end - r.first) x (drop r.first all) h)) in
      subst (Each (λ x. In x all)) (sym (flat_map-cons (in_range all) r rs)) (each_append (λ x. In x all) (in_range all r) (flat_map (in_range all) rs) first (ranges_in all rs))

module _ {X Y : Type 0} (f : X → Y) where
  range_map : (xs : List X) (r : SourceRange) → in_range (map f xs) r ≡ map f (in_range xs r)
  range_map xs r = ap (take (r.end - r.first)) (drop-map f r.first xs) ∙ take-map f (r.end - r.first) (drop r.first xs)

  pub ranges_map : (xs : List X) (rs : List SourceRange) → flat_map (in_range (map f xs)) rs ≡ map f (flat_map (in_range xs) rs)
  ranges_map xs [] = refl
  ranges_map xs (r ∷ rs) =
      flat_map-cons (in_range (map f xs)) r rs
      ∙ (λ i. range_map xs r i ++ ranges_map xs rs i)
      ∙ sym (ap (map f) (flat_map-cons (in_range xs) r rs) ∙ map-append f (in_range xs r) (flat_map (in_range xs) rs))

  -- where no two have one key, those with one key are one
  pub one_of : (xs : List X) → NoneTwice (map f xs) → (x y : X) → In x xs → In y xs → f x ≡ f y → x ≡ y
  one_of [] once x y a b e = absurd a
  one_of (z ∷ xs) once x y (inl a) (inl b) e = sym a ∙ b
  one_of (z ∷ xs) once x y (inl a) (inr b) e = absurd (once.0 (subst (λ (k : Y). In k (map f xs)) (sym (ap f a ∙ e)) (in_map f y xs b)))
  one_of (z ∷ xs) once x y (inr a) (inl b) e = absurd (once.0 (subst (λ (k : Y). In k (map f xs)) (e ∙ sym (ap f b)) (in_map f x xs a)))
  one_of (z ∷ xs) once x y (inr a) (inr b) e = one_of xs once.1 x y a b e

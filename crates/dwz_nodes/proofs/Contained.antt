-- What stands in a list that is made from another, element by element.
use Rattle.std.proofs.Common.{◌≡◌, ℕ, zero, suc, ◌<◌, ◌⊎◌, Bool, true, false, true≢false, cond, Contains, List, [], ◌∷◌, length, get_or, inl, inr, ⊎_elim, refl, sym, ap, subst, ◌∙◌, arith}
use Rattle.std.specs.Prelude.{map}
use Rattle.std.specs.List.{filter, flat_map}
use Rattle.std.proofs.lemmas.List.Elements.{All-contains, All-contains_itself, All-filter, Contains-append_cases, Contains-append_left, Contains-append_right, filter_passes}

module _ {X : Type 0} where
  pub cons-cases : (x : X) (xs : List X) (z : X) → Contains (x ∷ xs) z → (x ≡ z) ⊎ Contains xs z
  cons-cases x xs z c = by c.0 c.1 c.2
    where
      by : (k : ℕ) → k < length (x ∷ xs) → get_or (x ∷ xs) k z ≡ z → (x ≡ z) ⊎ Contains xs z
      by zero l e = inl e
      by (suc k) l e = inr (k, omega arith, e)

  pub cons-first : (x : X) (xs : List X) → Contains (x ∷ xs) x
  cons-first x xs = (zero, omega arith, refl)

  pub cons-rest : (x : X) (xs : List X) (z : X) → Contains xs z → Contains (x ∷ xs) z
  cons-rest x xs z c = (suc c.0, let l = c.1 in omega arith, c.2)

  pub none-contained : (z : X) → ¬ (Contains [] z)
  none-contained z c = let l = c.1 in absurd (omega arith)

  -- a filter
  pub contains-filter : (p : X → Bool) (xs : List X) (z : X) → Contains xs z → p z ≡ true → Contains (filter p xs) z
  contains-filter p [] z c holds = absurd (none-contained z c)
  contains-filter p (x ∷ xs) z c holds = by (p x) refl (λ o. contains-filter p xs z o holds)
    where
      by : (b : Bool) → p x ≡ b → (Contains xs z → Contains (filter p xs) z) → Contains (cond b (x ∷ filter p xs) (filter p xs)) z
      by true e rest = ⊎_elim
          (λ is. subst (λ (y : X). Contains (x ∷ filter p xs) y) is (cons-first x (filter p xs)))
          (λ o. cons-rest x (filter p xs) z (rest o))
          (cons-cases x xs z c)
      by false e rest = ⊎_elim
          (λ is. absurd (true≢false (sym holds ∙ (ap p (sym is) ∙ e))))
          (λ o. rest o)
          (cons-cases x xs z c)

  pub filter-contained : (p : X → Bool) (xs : List X) (z : X) → Contains (filter p xs) z → Contains xs z × (p z ≡ true)
  filter-contained p xs z c = (
    All-contains (λ (y : X). Contains xs y) (filter p xs) z (All-filter p (λ (y : X). Contains xs y) xs (All-contains_itself xs)) c,
    All-contains (λ (y : X). p y ≡ true) (filter p xs) z (filter_passes p xs) c,
  )

module _ {X Y : Type 0} where
  -- a map
  pub contains-map : (f : X → Y) (xs : List X) (x : X) → Contains xs x → Contains (map f xs) (f x)
  contains-map f [] x c = absurd (none-contained x c)
  contains-map f (y ∷ xs) x c = ⊎_elim
      (λ is. subst (λ (z : X). Contains (f y ∷ map f xs) (f z)) is (cons-first (f y) (map f xs)))
      (λ o. cons-rest (f y) (map f xs) (f x) (contains-map f xs x o))
      (cons-cases y xs x c)

  pub map-contained : (f : X → Y) (xs : List X) (y : Y) → Contains (map f xs) y → (x : X) × Contains xs x × (f x ≡ y)
  map-contained f [] y c = absurd (none-contained y c)
  map-contained f (x ∷ xs) y c = ⊎_elim
      (λ is. (x, cons-first x xs, is))
      (λ o. let h = map-contained f xs y o in (h.0, cons-rest x xs h.0 h.1, h.2))
      (cons-cases (f x) (map f xs) y c)

  -- lists behind each other
  pub contains-flat_map : (f : X → List Y) (xs : List X) (x : X) (y : Y) → Contains xs x → Contains (f x) y → Contains (flat_map f xs) y
  contains-flat_map f [] x y c d = absurd (none-contained x c)
  contains-flat_map f (z ∷ xs) x y c d = ⊎_elim
      (λ is. Contains-append_left (f z) (flat_map f xs) y (subst (λ (q : X). Contains (f q) y) (sym is) d))
      (λ o. Contains-append_right (f z) (flat_map f xs) y (contains-flat_map f xs x y o d))
      (cons-cases z xs x c)

  pub flat_map-contained : (f : X → List Y) (xs : List X) (y : Y) → Contains (flat_map f xs) y → (x : X) × Contains xs x × Contains (f x) y
  flat_map-contained f [] y c = absurd (none-contained y c)
  flat_map-contained f (x ∷ xs) y c = ⊎_elim
      (λ is. (x, cons-first x xs, is))
      (λ o. let h = flat_map-contained f xs y o in (h.0, cons-rest x xs h.0 h.1, h.2))
      (Contains-append_cases (f x) (flat_map f xs) y c)

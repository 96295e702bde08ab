-- Places where what has one copy has one place.
use Rattle.std.proofs.Common.{◌≡◌, ◌⊎◌, ◌&&◌, ◌==◌, Bool, true, false, List, [], ◌∷◌, refl, sym, ap, ◌∙◌, inl, inr, eqb-true, eq-eqb}
use Rattle.std.proofs.lemmas.Bool.{and_from, and_parts}
use Rattle.dwz_def_reading.specs.Lists.{In}
use Rattle.dwz_def_reading.specs.Places.{Place}
use Rattle.dwz_def_tops.specs.Spots.{EntryName, same_spot}
use Rattle.dwz_def_encoding.proofs.SameLemmas.{spots_same}

abbrev same_place : Place → Place → Bool
same_place p q = p.file == q.file && p.at == q.at

place_self : (p : Place) → same_place p p ≡ true
place_self p = and_from (p.file == p.file) (p.at == p.at) (eq-eqb p.file p.file refl) (eq-eqb p.at p.at refl)

place_true : (p q : Place) → same_place p q ≡ true → p ≡ q
place_true p q e =
    let both = and_parts (p.file == q.file) (p.at == q.at) e in
    let f = eqb-true p.file q.file both.0 in
    let a = eqb-true p.at q.at both.1 in
    λ i. record { file = f i; at = a i }

abbrev Some : List EntryName → List EntryName → Type 0
Some some names = (s : EntryName) → In s some → In s names

module _ (names : List EntryName) (g : EntryName → Place) (copy : EntryName → EntryName) (nowhere : Place) where
  unfoldable pub shared_in : List EntryName → EntryName → Place
  shared_in [] t = nowhere
  shared_in (s ∷ some) t = elim (same_spot (copy s) t) as (λ _. Place) [ true ↦ g s | false ↦ shared_in some t ]

  -- the place of the first name that has this copy
  abbrev pub shared : EntryName → Place
  shared t = shared_in names t

  unfoldable pub one_in : List EntryName → Place → Place
  one_in [] p = p
  one_in (s ∷ some) p = elim (same_place (g s) p) as (λ _. Place) [ true ↦ shared_in names (copy s) | false ↦ one_in some p ]

  -- that of what has the copy of the name at a place
  abbrev pub one : Place → Place
  one p = one_in names p

  unfoldable pub at_in : List EntryName → EntryName → Place
  at_in [] s = shared_in names (copy s)
  at_in (t ∷ some) s = elim (same_spot t s) as (λ _. Place) [ true ↦ g t | false ↦ at_in some s ]

  -- the place of one of these names, and else that of what has its copy
  abbrev pub at_name : EntryName → Place
  at_name s = at_in names s

  record Found (some : List EntryName) (t : EntryName) : Type 0 where
    name : EntryName
    there : In name some
    same : copy name ≡ t
    place : shared_in some t ≡ g name

  shared_found : (some : List EntryName) (t : EntryName) → (shared_in some t ≡ nowhere) ⊎ Found some t
  unfolding shared_in
  shared_found [] t = inl refl
  shared_found (s ∷ some) t = by (shared_found some t) (same_spot (copy s) t) refl where
    by : (shared_in some t ≡ nowhere) ⊎ Found some t → (b : Bool) → same_spot (copy s) t ≡ b
        → (shared_in (s ∷ some) t ≡ nowhere) ⊎ Found (s ∷ some) t
    by rest true e = inr (record { name = s; there = inl refl; same = spots_same.true_is (copy s) t e; place = rw (e, shared_in) refl })
    by (inl none) false e = inl (rw (e, shared_in) none)
    by (inr f) false e = inr (record { name = f.name; there = inr f.there; same = f.same; place = rw (e, shared_in) f.place })

  shared_there : (some : List EntryName) (s : EntryName) → In s some → Found some (copy s)
  unfolding shared_in
  shared_there [] s there = absurd there
  shared_there (t ∷ some) s there = by (λ later. shared_there some s later) there (same_spot (copy t) (copy s)) refl where
    by : (In s some → Found some (copy s)) → In s (t ∷ some) → (b : Bool) → same_spot (copy t) (copy s) ≡ b → Found (t ∷ some) (copy s)
    by rest here true e = record { name = t; there = inl refl; same = spots_same.true_is (copy t) (copy s) e; place = rw (e, shared_in) refl }
    by rest (inl here) false e = absurd (let z : true ≡ false = sym (spots_same.refl_is (copy s)) ∙ ap (λ (w : EntryName). same_spot (copy w) (copy s)) (sym here) ∙ e in cc)
    by rest (inr later) false e = (let f = rest later in record { name = f.name; there = inr f.there; same = f.same; place = rw (e, shared_in) f.place })

  -- a name of these has its own place
  named_in : (some : List EntryName) (s : EntryName) → In s some → at_in some s ≡ g s
  unfolding at_in
  named_in [] s there = absurd there
  named_in (t ∷ some) s there = by (λ later. named_in some s later) there (same_spot t s) refl where
    by : (In s some → at_in some s ≡ g s) → In s (t ∷ some) → (b : Bool) → same_spot t s ≡ b → (elim b as (λ _. Place) [ true ↦ g t | false ↦ at_in some s ]) ≡ g s
    by rest here true e = ap g (spots_same.true_is t s e)
    by rest (inl here) false e = absurd (let z : true ≡ false = sym (spots_same.refl_is s) ∙ ap (λ (w : EntryName). same_spot w s) (sym here) ∙ e in cc)
    by rest (inr later) false e = rest later

  pub at_named : (s : EntryName) → In s names → at_name s ≡ g s
  at_named s there = named_in names s there

  at_cases : (some : List EntryName) (s : EntryName) → (In s some × (at_in some s ≡ g s)) ⊎ (at_in some s ≡ shared_in names (copy s))
  unfolding at_in
  at_cases [] s = inr refl
  at_cases (t ∷ some) s = by (at_cases some s) (same_spot t s) refl where
    by : (In s some × (at_in some s ≡ g s)) ⊎ (at_in some s ≡ shared_in names (copy s)) → (b : Bool) → same_spot t s ≡ b
        → (In s (t ∷ some) × ((elim b as (λ _. Place) [ true ↦ g t | false ↦ at_in some s ]) ≡ g s)) ⊎ ((elim b as (λ _. Place) [ true ↦ g t | false ↦ at_in some s ]) ≡ shared_in names (copy s))
    by rest true e = (let same = spots_same.true_is t s e in inl (inl same, ap g same))
    by (inl h) false e = inl (inr h.0, h.1)
    by (inr q) false e = inr q

  -- ---- where each name has one place, and none is nowhere

  module _ (apart : (x y : EntryName) → In x names → In y names → g x ≡ g y → x ≡ y) (somewhere : (s : EntryName) → In s names → g s ≡ nowhere → ⊥) where
    one_name : (some : List EntryName) → Some some names → (s : EntryName) → In s some → one_in some (g s) ≡ shared_in names (copy s)
    unfolding one_in
    one_name [] into s there = absurd there
    one_name (t ∷ some) into s there = by (λ later. one_name some (λ x is. into x (inr is)) s later) (into s there) there (same_place (g t) (g s)) refl where
      by : (In s some → one_in some (g s) ≡ shared_in names (copy s)) → In s names → In s (t ∷ some) → (b : Bool) → same_place (g t) (g s) ≡ b
          → (elim b as (λ _. Place) [ true ↦ shared_in names (copy t) | false ↦ one_in some (g s) ]) ≡ shared_in names (copy s)
      by rest own here true e = ap (λ (w : EntryName). shared_in names (copy w)) (apart t s (into t (inl refl)) own (place_true (g t) (g s) e))
      by rest own (inl here) false e = absurd (let z : true ≡ false = sym (place_self (g s)) ∙ ap (λ (w : EntryName). same_place (g w) (g s)) (sym here) ∙ e in cc)
      by rest own (inr later) false e = rest later

    one_nowhere : (some : List EntryName) → Some some names → one_in some nowhere ≡ nowhere
    unfolding one_in
    one_nowhere [] into = refl
    one_nowhere (t ∷ some) into = by (one_nowhere some (λ x is. into x (inr is))) (same_place (g t) nowhere) refl where
      by : one_in some nowhere ≡ nowhere → (b : Bool) → same_place (g t) nowhere ≡ b → (elim b as (λ _. Place) [ true ↦ shared_in names (copy t) | false ↦ one_in some nowhere ]) ≡ nowhere
      by rest true e = absurd (somewhere t (into t (inl refl)) (place_true (g t) nowhere e))
      by rest false e = rest

    pub one_at : (s : EntryName) → one (at_name s) ≡ shared (copy s)
    one_at s = elim (at_cases names s) [
      | inl h ↦ ap one h.1 ∙ one_name names (λ x is. is) s h.0
      | inr q ↦ ap one q ∙ elim (shared_found names (copy s)) [
        | inl none ↦ ap one none ∙ one_nowhere names (λ x is. is) ∙ sym none
        | inr f ↦ ap one f.place ∙ one_name names (λ x is. is) f.name f.there ∙ ap shared f.same
      ]
    ]

    -- what has one place has one copy
    pub shared_apart : (a b : EntryName) → In a names → In b names → shared (copy a) ≡ shared (copy b) → copy a ≡ copy b
    shared_apart a b x y e =
        let f = shared_there names a x in
        let h = shared_there names b y in
        sym f.same ∙ ap copy (apart f.name h.name f.there h.there (sym f.place ∙ e ∙ h.place)) ∙ h.same

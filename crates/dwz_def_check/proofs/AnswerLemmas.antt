-- There is one answer on two lists at most; and where items are related exactly if their rows are, the answer on lists is that on rows.
use Rattle.std.proofs.Common.{◌≡◌, ℕ, zero, suc, List, [], ◌∷◌, length, refl, sym, ap, ◌∙◌, inl, inr}
use Rattle.std.specs.Prelude.{◌↔◌}
use Rattle.dwz_def_reading.specs.Documents.{Compile, DwUnit, Kind, OfType, Partial}
use Rattle.dwz_def_reading.specs.Lists.{In}
use Rattle.dwz_def_cross.specs.Tops.{unless_partial, whole_units}
use Rattle.dwz_def_cross.specs.CrossSame.{EachTwo}
use Rattle.dwz_def_check.specs.Answer.{FirstApart, SameBy}
use Rattle.dwz_def_check.specs.declared.same.Same.{Same}
use Rattle.dwz_def_check.specs.declared.same.Same.TheVariants.{Unit as OneUnit, Units, Yes}

-- ---- one answer

two_many : {X Y : Type 0} (R : X → Y → Type 0) (xs : List X) (ys : List Y) → EachTwo R xs ys → length xs ≡ length ys
two_many R [] [] h = refl
two_many R (x ∷ xs) (y ∷ ys) h = ap suc (two_many R xs ys h.1)
two_many R _ _ h = absurd h

none_apart : {X Y : Type 0} (R : X → Y → Type 0) (xs : List X) (ys : List Y) (n : ℕ) → EachTwo R xs ys → FirstApart R xs ys n → ⊥
none_apart R (x ∷ xs) (y ∷ ys) zero h j = j h.0
none_apart R (x ∷ xs) (y ∷ ys) (suc n) h j = none_apart R xs ys n h.1 j.1
none_apart R [] [] n h j = j
none_apart R [] (y ∷ ys) n h j = j
none_apart R (x ∷ xs) [] n h j = j

one_apart : {X Y : Type 0} (R : X → Y → Type 0) (xs : List X) (ys : List Y) (m n : ℕ) → FirstApart R xs ys m → FirstApart R xs ys n → m ≡ n
one_apart R (x ∷ xs) (y ∷ ys) zero zero h j = refl
one_apart R (x ∷ xs) (y ∷ ys) zero (suc n) h j = absurd (h j.0)
one_apart R (x ∷ xs) (y ∷ ys) (suc m) zero h j = absurd (j h.0)
one_apart R (x ∷ xs) (y ∷ ys) (suc m) (suc n) h j = ap suc (one_apart R xs ys m n h.1 j.1)
one_apart R [] [] m n h j = absurd h
one_apart R [] (y ∷ ys) m n h j = absurd h
one_apart R (x ∷ xs) [] m n h j = absurd h

pub one_same : {X Y : Type 0} (R : X → Y → Type 0) (xs : List X) (ys : List Y) (a b : Same) → SameBy R xs ys a → SameBy R xs ys b → a ≡ b
one_same R xs ys Yes Yes h j = refl
one_same R xs ys Yes (Units m n) h j = absurd (j.2 (sym j.0 ∙ two_many R xs ys h ∙ j.1))
one_same R xs ys Yes (OneUnit n) h j = absurd (none_apart R xs ys n h j.1)
one_same R xs ys (Units m n) Yes h j = absurd (h.2 (sym h.0 ∙ two_many R xs ys j ∙ h.1))
one_same R xs ys (Units m n) (Units k l) h j = λ i. Units ((sym h.0 ∙ j.0) i) ((sym h.1 ∙ j.1) i)
one_same R xs ys (Units m n) (OneUnit k) h j = absurd (h.2 (sym h.0 ∙ j.0 ∙ h.1))
one_same R xs ys (OneUnit n) Yes h j = absurd (none_apart R xs ys n j h.1)
one_same R xs ys (OneUnit n) (Units k l) h j = absurd (j.2 (sym j.0 ∙ h.0 ∙ j.1))
one_same R xs ys (OneUnit m) (OneUnit n) h j = ap (λ (k : ℕ). OneUnit k) (one_apart R xs ys m n h.1 j.1)

-- ---- items and their rows

module _ {X Y A B : Type 0} (R : X → Y → Type 0) (S : A → B → Type 0) (I : X → A → Type 0) (J : Y → B → Type 0) where
  abbrev Agree : List X → List Y → Type 0
  Agree xs ys = (x : X) (y : Y) (a : A) (b : B) → In x xs → In y ys → I x a → J y b → S a b ↔ R x y

  agree_later : (x : X) (y : Y) (xs : List X) (ys : List Y) → Agree (x ∷ xs) (y ∷ ys) → Agree xs ys
  agree_later x y xs ys f v w a b is js h j = f v w a b (inr is) (inr js) h j

  two_rows : (xs : List X) (ys : List Y) (as' : List A) (bs : List B) → Agree xs ys → EachTwo I xs as' → EachTwo J ys bs → EachTwo S as' bs ↔ EachTwo R xs ys
  two_rows [] [] [] [] f h j = (λ k. tt, λ k. tt)
  two_rows (x ∷ xs) (y ∷ ys) (a ∷ as') (b ∷ bs) f h j =
      let here = f x y a b (inl refl) (inl refl) h.0 j.0 in
      let rest = two_rows xs ys as' bs (agree_later x y xs ys f) h.1 j.1 in
      (λ k. (here.0 k.0, rest.0 k.1), λ k. (here.1 k.0, rest.1 k.1))
  two_rows [] (y ∷ ys) [] (b ∷ bs) f h j = (λ k. absurd k, λ k. absurd k)
  two_rows (x ∷ xs) [] (a ∷ as') [] f h j = (λ k. absurd k, λ k. absurd k)
  two_rows [] ys (a ∷ as') bs f h j = absurd h
  two_rows (x ∷ xs) ys [] bs f h j = absurd h
  two_rows xs [] as' (b ∷ bs) f h j = absurd j
  two_rows xs (y ∷ ys) as' [] f h j = absurd j

  apart_rows : (xs : List X) (ys : List Y) (as' : List A) (bs : List B) (n : ℕ) → Agree xs ys → EachTwo I xs as' → EachTwo J ys bs → FirstApart S as' bs n ↔ FirstApart R xs ys n
  apart_rows (x ∷ xs) (y ∷ ys) (a ∷ as') (b ∷ bs) zero f h j =
      let here = f x y a b (inl refl) (inl refl) h.0 j.0 in
      (λ k r. k (here.1 r), λ k r. k (here.0 r))
  apart_rows (x ∷ xs) (y ∷ ys) (a ∷ as') (b ∷ bs) (suc n) f h j =
      let here = f x y a b (inl refl) (inl refl) h.0 j.0 in
      let rest = apart_rows xs ys as' bs n (agree_later x y xs ys f) h.1 j.1 in
      (λ k. (here.0 k.0, rest.0 k.1), λ k. (here.1 k.0, rest.1 k.1))
  apart_rows [] [] [] [] n f h j = (λ k. absurd k, λ k. absurd k)
  apart_rows [] (y ∷ ys) [] (b ∷ bs) n f h j = (λ k. absurd k, λ k. absurd k)
  apart_rows (x ∷ xs) [] (a ∷ as') [] n f h j = (λ k. absurd k, λ k. absurd k)
  apart_rows [] ys (a ∷ as') bs n f h j = absurd h
  apart_rows (x ∷ xs) ys [] bs n f h j = absurd h
  apart_rows xs [] as' (b ∷ bs) n f h j = absurd j
  apart_rows xs (y ∷ ys) as' [] n f h j = absurd j

  pub answer_rows : (xs : List X) (ys : List Y) (as' : List A) (bs : List B) → Agree xs ys → EachTwo I xs as' → EachTwo J ys bs → (same : Same) → SameBy S as' bs same ↔ SameBy R xs ys same
  answer_rows xs ys as' bs f h j Yes = two_rows xs ys as' bs f h j
  answer_rows xs ys as' bs f h j (Units m n) =
      let x = two_many I xs as' h in
      let y = two_many J ys bs j in
      (λ k. (x ∙ k.0, y ∙ k.1, k.2), λ k. (sym x ∙ k.0, sym y ∙ k.1, k.2))
  answer_rows xs ys as' bs f h j (OneUnit n) =
      let x = two_many I xs as' h in
      let y = two_many J ys bs j in
      let z = apart_rows xs ys as' bs n f h j in
      (λ k. (x ∙ k.0 ∙ sym y, z.0 k.1), λ k. (sym x ∙ k.0 ∙ y, z.1 k.1))

-- ---- units that aren't partial

whole_by : {P : Type 0} (k : Kind P) (v : DwUnit P) (rest : List (DwUnit P)) (u : DwUnit P) → In u (unless_partial k v rest) → In u (v ∷ rest)
whole_by Partial v rest u h = inr h
whole_by Compile v rest u h = h
whole_by (OfType signature main) v rest u h = h

pub whole_in : {P : Type 0} (units : List (DwUnit P)) (u : DwUnit P) → In u (whole_units units) → In u units
unfolding whole_units
whole_in [] u h = absurd h
whole_in {P} (v ∷ units) u h = go (whole_by v.kind v (whole_units units) u h) (λ r. whole_in units u r) where
  go : In u (v ∷ whole_units units) → (In u (whole_units units) → In u units) → In u (v ∷ units)
  go (inl e) f = inl e
  go (inr r) f = inr (f r)

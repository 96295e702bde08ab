-- Lists in one strict order have the same members exactly if they are equal.
use Rattle.std.proofs.Common.{◌≡◌, Bool, true, false, List, [], ◌∷◌, refl, sym, subst, ◌∙◌, inl, inr}
use Rattle.std.proofs.lemmas.Bool.{false≢true}
use Rattle.dwz_def_reading.specs.Lists.{Each, EachPair, In}
use Rattle.dwz_def_tops.proofs.Members.{each_in}
use Rattle.dwz_def_check.specs.CrossRows.{SameMembers}

module _ {X : Type 0} (before : X → X → Bool) (never : (x : X) → before x x ≡ false) (then : (x y z : X) → before x y ≡ true → before y z ≡ true → before x z ≡ true) where
  abbrev Is : X → X → Type 0
  Is x y = before x y ≡ true

  no_circle : (x y : X) → Is x y → Is y x → ⊥
  no_circle x y h j = false≢true (sym (never x) ∙ then x y x h j)

  -- the first of two lists is one
  one_first : (x y : X) (xs ys : List X) → Each (Is x) xs → Each (Is y) ys → In x (y ∷ ys) → In y (x ∷ xs) → x ≡ y
  one_first x y xs ys h j (inl e) u = sym e
  one_first x y xs ys h j (inr r) (inl e) = e
  one_first x y xs ys h j (inr r) (inr q) = absurd (no_circle x y (each_in (Is x) y xs h q) (each_in (Is y) x ys j r))

  -- what is behind the first of one is behind that of the other
  behind : (x : X) (xs ys : List X) → Each (Is x) xs → (z : X) → In z xs → In z (x ∷ ys) → In z ys
  behind x xs ys h z i (inr r) = r
  behind x xs ys h z i (inl e) = absurd (false≢true (sym (never x) ∙ subst (λ (w : X). before x w ≡ true) (sym e) (each_in (Is x) z xs h i)))

  pub sorted_one : (xs ys : List X) → EachPair Is xs → EachPair Is ys → SameMembers xs ys → xs ≡ ys
  sorted_one [] [] h j same = refl
  sorted_one [] (y ∷ ys) h j same = absurd ((same y).1 (inl refl))
  sorted_one (x ∷ xs) [] h j same = absurd ((same x).0 (inl refl))
  sorted_one (x ∷ xs) (y ∷ ys) h j same =
      let first = one_first x y xs ys h.0 j.0 ((same x).0 (inl refl)) ((same y).1 (inl refl)) in
      let rest = sorted_one xs ys h.1 j.1
      (λ z. (
        λ i. behind x xs ys h.0 z i (subst (λ (w : X). In z (w ∷ ys)) (sym first) ((same z).0 (inr i))),
        λ i. behind y ys xs j.0 z i (subst (λ (w : X). In z (w ∷ xs)) first ((same z).1 (inr i))),
      )) in
      λ i. first i ∷ rest i

pub same_one : {X : Type 0} (xs ys : List X) → xs ≡ ys → SameMembers xs ys
same_one {X} xs ys e x = (λ h. subst (λ (w : List X). In x w) e h, λ h. subst (λ (w : List X). In x w) (sym e) h)

-- The same pieces of labels say the same: a top that has nothing but one such piece is put into the laws on whole labels.
use Rattle.std.proofs.Common.{◌≡◌, ℕ, ℤ, zero, suc, ◌<◌, ◌≤◌, List, [], ◌∷◌, ◌++◌, length, map, Option, Some, None, slice_get, refl, sym, ap, subst, ◌∙◌, inl, inr, arith}
use Rattle.std.specs.Prelude.{◌⊎◌}
use Rattle.std.proofs.lemmas.List.{append_cancel_left, append_cancel_right}
use Rattle.dwz_def_reading.specs.Documents.{Attr}
use Rattle.dwz_def_reading.specs.Trees.{End}
use Rattle.dwz_def_tops.specs.Alike.{SameAttrs}
use Rattle.dwz_def_tops.specs.Spots.{EntryName, SpaceName, Top, UnitOf}
use Rattle.dwz_def_explain.specs.Chain.{Whichever}
use Rattle.dwz_def_explain.specs.What.{IsFirstUnequal, SameAttribute}
use Rattle.dwz_label.specs.Labels.{attr_label, counted, each_counted, entries_label, label_of, language_label, number, place_label}
use Rattle.dwz_label.proofs.Codes.{number_code}
use Rattle.dwz_label.proofs.LabelLemmas.{bare_label, label_bare}

-- ---- small tops

abbrev top_of : Option ℤ → List SpaceName → List (Attr EntryName) → Top
top_of language spaces attrs = record {
  file = 0;
  unit = 0;
  language = language;
  spaces = spaces;
  number = 0;
  node = record { at = UnitOf 0; tag = 0; attrs = attrs };
  below = End;
}

-- an attribute

abbrev around : List ℕ → List ℕ
around w = place_label None [] ++ ((number 0 ++ (number 0 ++ (number 1 ++ (w ++ [])))) ++ entries_label End)

label_around : (a : Attr EntryName) → label_of (top_of None [] (a ∷ [])) ≡ around (attr_label a)
unfolding label_of
label_around a = refl

around_one : (v w : List ℕ) → around v ≡ around w → v ≡ w
around_one v w e =
    let inner = λ (u : List ℕ). number 0 ++ (number 0 ++ (number 1 ++ (u ++ []))) in
    let a = append_cancel_left (place_label None []) (inner v ++ entries_label End) (inner w ++ entries_label End) e in
    let b = append_cancel_right (inner v) (inner w) (entries_label End) a in
    let c = append_cancel_left (number 0) (number 0 ++ (number 1 ++ (v ++ []))) (number 0 ++ (number 1 ++ (w ++ []))) b in
    let d = append_cancel_left (number 0) (number 1 ++ (v ++ [])) (number 1 ++ (w ++ [])) c in
    let f = append_cancel_left (number 1) (v ++ []) (w ++ []) d in
    append_cancel_right v w [] f

pub attribute_of : (a b : Attr EntryName) → attr_label a ≡ attr_label b → SameAttribute a b
attribute_of a b e =
    let bare = label_bare (top_of None [] (a ∷ [])) (top_of None [] (b ∷ [])) (label_around a ∙ ap around e ∙ sym (label_around b)) in
    let attrs = bare.2.1 in
    (attrs.0, attrs.1)

pub of_attribute : (a b : Attr EntryName) → SameAttribute a b → attr_label a ≡ attr_label b
of_attribute a b h =
    let same = bare_label (top_of None [] (a ∷ [])) (top_of None [] (b ∷ [])) (refl, refl, (refl, (h.0, h.1, tt)), tt) in
    around_one (attr_label a) (attr_label b) (sym (label_around a) ∙ same ∙ label_around b)

-- languages and names of spaces

pub languages_of : (l m : Option ℤ) → language_label l ≡ language_label m → l ≡ m
unfolding label_of
languages_of l m e =
    let bare = label_bare (top_of l [] []) (top_of m [] [])
    (ap (λ (w : List ℕ). (w ++ each_counted counted []) ++ ((number 0 ++ (number 0 ++ each_counted attr_label [])) ++ entries_label End)) e) in
    bare.0

abbrev texts : List SpaceName → List (List ℕ)
texts spaces = map (λ (s : SpaceName). s.text) spaces

pub names_of : (xs ys : List SpaceName) → each_counted counted (texts xs) ≡ each_counted counted (texts ys) → texts xs ≡ texts ys
unfolding label_of
names_of xs ys e =
    let bare = label_bare (top_of None xs []) (top_of None ys [])
    (ap (λ (w : List ℕ). (language_label None ++ w) ++ ((number 0 ++ (number 0 ++ each_counted attr_label [])) ++ entries_label End)) e) in
    bare.1

pub numbers_of : (m n : ℕ) → number m ≡ number n → m ≡ n
numbers_of m n e = (number_code m n [] [] (ap (λ (w : List ℕ). w ++ []) e)).0

-- ---- the first attributes that aren't the same

-- the first ones are the same
abbrev pub SameTo : ℕ → List (Attr EntryName) → List (Attr EntryName) → Type 0
SameTo zero xs ys = Unit {0}
SameTo (suc i) (x ∷ xs) (y ∷ ys) = SameAttribute x y × SameTo i xs ys
SameTo (suc i) _ _ = ⊥

there : (x u : Attr EntryName) → Some u ≡ Some x → u ≡ x
there x u e = cc

pub same_more : (i : ℕ) (xs ys : List (Attr EntryName)) (x y : Attr EntryName) → SameTo i xs ys → slice_get xs i ≡ Some x → slice_get ys i ≡ Some y → SameAttribute x y → SameTo (suc i) xs ys
same_more zero (u ∷ xs) (v ∷ ys) x y s g h same =
    (subst (λ (a : Attr EntryName). SameAttribute a v) (sym (there x u g)) (subst (λ (b : Attr EntryName). SameAttribute x b) (sym (there y v h)) same), tt)
same_more (suc i) (u ∷ xs) (v ∷ ys) x y s g h same = (s.0, same_more i xs ys x y s.1 g h same)
same_more zero [] ys x y s g h same = absurd cc
same_more zero (u ∷ xs) [] x y s g h same = absurd cc
same_more (suc i) [] ys x y s g h same = absurd cc
same_more (suc i) (u ∷ xs) [] x y s g h same = absurd cc

pub same_unequal : (i : ℕ) (xs ys : List (Attr EntryName)) (x y : Attr EntryName) → SameTo i xs ys → slice_get xs i ≡ Some x → slice_get ys i ≡ Some y → (SameAttribute x y → ⊥) → IsFirstUnequal i xs ys
same_unequal zero (u ∷ xs) (v ∷ ys) x y s g h differ =
    λ same. differ (subst (λ (a : Attr EntryName). SameAttribute a y) (there x u g) (subst (λ (b : Attr EntryName). SameAttribute u b) (there y v h) same))
same_unequal (suc i) (u ∷ xs) (v ∷ ys) x y s g h differ = (s.0, same_unequal i xs ys x y s.1 g h differ)
same_unequal zero [] ys x y s g h differ = absurd cc
same_unequal zero (u ∷ xs) [] x y s g h differ = absurd cc
same_unequal (suc i) [] ys x y s g h differ = absurd cc
same_unequal (suc i) (u ∷ xs) [] x y s g h differ = absurd cc

pub same_all : (i : ℕ) (xs ys : List (Attr EntryName)) → SameTo i xs ys → length xs ≡ i → length ys ≡ i → SameAttrs Whichever xs ys
same_all zero [] [] s m n = tt
same_all zero (x ∷ xs) ys s m n = absurd (omega (arith, m))
same_all zero [] (y ∷ ys) s m n = absurd (omega (arith, n))
same_all (suc i) (x ∷ xs) (y ∷ ys) s m n = (s.0.0, s.0.1, same_all i xs ys s.1 (omega (arith, m)) (omega (arith, n)))
same_all (suc i) [] ys s m n = absurd (omega (arith, m))
same_all (suc i) (x ∷ xs) [] s m n = absurd (omega (arith, n))

pub same_short : (i : ℕ) (xs ys : List (Attr EntryName)) → SameTo i xs ys → ((length xs ≡ i) × (i < length ys)) ⊎ ((length ys ≡ i) × (i < length xs)) → IsFirstUnequal i xs ys
same_short zero [] (y ∷ ys) s h = tt
same_short zero (x ∷ xs) [] s h = tt
same_short zero [] [] s (inl h) = absurd (let a = h.1 in omega (arith, a))
same_short zero [] [] s (inr h) = absurd (let a = h.1 in omega (arith, a))
same_short zero (x ∷ xs) (y ∷ ys) s (inl h) = absurd (let a = h.0 in omega (arith, a))
same_short zero (x ∷ xs) (y ∷ ys) s (inr h) = absurd (let a = h.0 in omega (arith, a))
same_short (suc i) (x ∷ xs) (y ∷ ys) s (inl h) = (s.0, same_short i xs ys s.1 (inl (let a = h.0 in omega (arith, a), let b = h.1 in omega (arith, b))))
same_short (suc i) (x ∷ xs) (y ∷ ys) s (inr h) = (s.0, same_short i xs ys s.1 (inr (let a = h.0 in omega (arith, a), let b = h.1 in omega (arith, b))))
same_short (suc i) [] ys s h = absurd s
same_short (suc i) (x ∷ xs) [] s h = absurd s

pub unequal_within : (i : ℕ) (xs ys : List (Attr EntryName)) → IsFirstUnequal i xs ys → i ≤ length xs
unequal_within zero xs ys h = omega arith
unequal_within (suc i) (x ∷ xs) (y ∷ ys) h = let l = unequal_within i xs ys h.1 in omega (arith, l)
unequal_within (suc i) [] [] h = absurd h
unequal_within (suc i) [] (y ∷ ys) h = absurd h
unequal_within (suc i) (x ∷ xs) [] h = absurd h

-- What differs between two tops tells them apart, and is one thing alone.
use Rattle.std.proofs.Common.{◌≡◌, ℕ, zero, suc, List, [], ◌∷◌, refl, ap, ◌∙◌}
use Rattle.dwz_def_reading.specs.Documents.{Attr, Entries}
use Rattle.dwz_def_reading.specs.Trees.{End, Entry}
use Rattle.dwz_def_tops.specs.Seen.{heads}
use Rattle.dwz_def_tops.specs.Alike.{SameAttrs, SameEntries}
use Rattle.dwz_def_tops.specs.Spots.{EntryName}
use Rattle.dwz_def_explain.specs.Chain.{Whichever}
use Rattle.dwz_def_explain.specs.What.{AttributesDiffer, ChildrenDiffer, EquallyMany, FirstAmong, FirstDiffer, IsFirstUnequal, SameHere, SameWhole, Subtree, TagsDiffer, subtree, whole_top}
use Rattle.dwz_def_explain.specs.WhatLaws.{OneWhatLaw, WhatTellsLaw}
use Rattle.dwz_def_explain.specs.declared.verdict.What.TheVariants.{Attribute, Children, Language, Space, Tag}

abbrev Relation : Type 1
Relation = Subtree → Subtree → Type 0

-- where it holds, the two entries aren't the same by themselves
abbrev Apart : Relation → Type 0
Apart D = (x y : Subtree) → D x y → SameHere x y → ⊥

-- ---- what is the same as a whole is the same by itself

heads_many : (f g : Entries EntryName) → SameEntries Whichever f g → EquallyMany f g
unfolding heads
heads_many End End h = refl
heads_many (Entry d f k) (Entry e f' k') h = ap suc (heads_many k k' h.2)
heads_many End (Entry e f k) h = absurd h
heads_many (Entry d f k) End h = absurd h

whole_here : (x y : Subtree) → SameWhole x y → SameHere x y
whole_here x y s = (s.0, heads_many x.below y.below s.1)

-- ---- first differences

-- what tells two whole entries apart tells those apart that hold them
among_apart : (R : Relation) → ((x y : Subtree) → R x y → SameWhole x y → ⊥) → (i : ℕ) (f g : Entries EntryName) → FirstAmong R i f g → SameEntries Whichever f g → ⊥
among_apart R apart zero (Entry d f k) (Entry e f' k') h s = apart (subtree d f) (subtree e f') h (s.0, s.1)
among_apart R apart (suc i) (Entry d f k) (Entry e f' k') h s = among_apart R apart i k k' h.1 s.2
among_apart R apart zero End g h s = absurd h
among_apart R apart (suc i) End g h s = absurd h
among_apart R apart zero (Entry d f k) End h s = absurd h
among_apart R apart (suc i) (Entry d f k) End h s = absurd h

first_apart : (D : Relation) → Apart D → (path : List ℕ) (x y : Subtree) → FirstDiffer D path x y → SameWhole x y → ⊥
first_apart D apart [] x y h s = apart x y h (whole_here x y s)
first_apart D apart (i ∷ path) x y h s = among_apart (FirstDiffer D path) (λ u v. first_apart D apart path u v) i x.below y.below h.1 s.1

-- two entries that are in both relations
pub record Both (R S : Relation) : Type 0 where
  pub first : Subtree
  pub second : Subtree
  pub one : R first second
  pub other : S first second

-- the first that differ among others are one pair
one_among : (R S : Relation) → ((x y : Subtree) → R x y → SameWhole x y → ⊥) → ((x y : Subtree) → S x y → SameWhole x y → ⊥)
    → (i j : ℕ) (f g : Entries EntryName) → FirstAmong R i f g → FirstAmong S j f g → (i ≡ j) × Both R S
one_among R S a b zero zero (Entry d f k) (Entry e f' k') h m = (refl, record { first = subtree d f; second = subtree e f'; one = h; other = m })
one_among R S a b zero (suc j) (Entry d f k) (Entry e f' k') h m = absurd (a (subtree d f) (subtree e f') h m.0)
one_among R S a b (suc i) zero (Entry d f k) (Entry e f' k') h m = absurd (b (subtree d f) (subtree e f') m h.0)
one_among R S a b (suc i) (suc j) (Entry d f k) (Entry e f' k') h m = let o = one_among R S a b i j k k' h.1 m.1 in (ap suc o.0, o.1)
one_among R S a b zero j End g h m = absurd h
one_among R S a b (suc i) j End g h m = absurd h
one_among R S a b zero j (Entry d f k) End h m = absurd h
one_among R S a b (suc i) j (Entry d f k) End h m = absurd h

module _ (D E : Relation) (apart : Apart D) (other : Apart E) where
  -- the first that differ stand at one path
  one_first : (p q : List ℕ) (x y : Subtree) → FirstDiffer D p x y → FirstDiffer E q x y → (p ≡ q) × Both D E
  one_first [] [] x y h m = (refl, record { first = x; second = y; one = h; other = m })
  one_first [] (j ∷ q) x y h m = absurd (apart x y h m.0)
  one_first (i ∷ p) [] x y h m = absurd (other x y m h.0)
  one_first (i ∷ p) (j ∷ q) x y h m =
      let o = one_among (FirstDiffer D p) (FirstDiffer E q) (λ u v. first_apart D apart p u v) (λ u v. first_apart E other q u v) i j x.below y.below h.1 m.1 in
      let r = one_first p q o.1.first o.1.second o.1.one o.1.other in
      let same = o.0 in
      let rest = r.0 in
      (cc, r.1)

-- ---- the three ways to differ

unequal_apart : (i : ℕ) (xs ys : List (Attr EntryName)) → IsFirstUnequal i xs ys → SameAttrs Whichever xs ys → ⊥
unequal_apart zero [] [] h s = absurd h
unequal_apart (suc i) [] [] h s = absurd h
unequal_apart zero (x ∷ xs) (y ∷ ys) h s = h (s.0, s.1)
unequal_apart (suc i) (x ∷ xs) (y ∷ ys) h s = unequal_apart i xs ys h.1 s.2
unequal_apart i [] (y ∷ ys) h s = absurd s
unequal_apart i (x ∷ xs) [] h s = absurd s

one_unequal : (i j : ℕ) (xs ys : List (Attr EntryName)) → IsFirstUnequal i xs ys → IsFirstUnequal j xs ys → i ≡ j
one_unequal zero zero xs ys h m = refl
one_unequal zero (suc j) [] [] h m = absurd h
one_unequal zero (suc j) (x ∷ xs) (y ∷ ys) h m = absurd (h m.0)
one_unequal zero (suc j) [] (y ∷ ys) h m = absurd m
one_unequal zero (suc j) (x ∷ xs) [] h m = absurd m
one_unequal (suc i) zero [] [] h m = absurd h
one_unequal (suc i) zero (x ∷ xs) (y ∷ ys) h m = absurd (m h.0)
one_unequal (suc i) zero [] (y ∷ ys) h m = absurd h
one_unequal (suc i) zero (x ∷ xs) [] h m = absurd h
one_unequal (suc i) (suc j) [] [] h m = absurd h
one_unequal (suc i) (suc j) (x ∷ xs) (y ∷ ys) h m = ap suc (one_unequal i j xs ys h.1 m.1)
one_unequal (suc i) (suc j) [] (y ∷ ys) h m = absurd h
one_unequal (suc i) (suc j) (x ∷ xs) [] h m = absurd h

tags_apart : Apart TagsDiffer
tags_apart x y h s = h s.0.0

attributes_apart : (i : ℕ) → Apart (AttributesDiffer i)
attributes_apart i x y h s = unequal_apart i x.node.attrs y.node.attrs h.1 s.0.1

children_apart : Apart ChildrenDiffer
children_apart x y h s = h.1 s.1

-- no two of them at once, and of attributes no two numbers
no_tag_attribute : (j : ℕ) → Both TagsDiffer (AttributesDiffer j) → ⊥
no_tag_attribute j b = b.one b.other.0

no_tag_children : Both TagsDiffer ChildrenDiffer → ⊥
no_tag_children b = b.one b.other.0.0

no_attribute_children : (i : ℕ) → Both (AttributesDiffer i) ChildrenDiffer → ⊥
no_attribute_children i b = unequal_apart i b.first.node.attrs b.second.node.attrs b.one.1 b.other.0.1

one_attribute : (i j : ℕ) → Both (AttributesDiffer i) (AttributesDiffer j) → i ≡ j
one_attribute i j b = one_unequal i j b.first.node.attrs b.second.node.attrs b.one.1 b.other.1

-- ---- tops

pub what_tells : WhatTellsLaw
what_tells a b Language x s = x s.0
what_tells a b Space x s = x.1 s.1
what_tells a b (Tag p) x s = first_apart TagsDiffer tags_apart p (whole_top a) (whole_top b) x.1 (s.2, s.3)
what_tells a b (Attribute p i) x s = first_apart (AttributesDiffer i) (attributes_apart i) p (whole_top a) (whole_top b) x.1 (s.2, s.3)
what_tells a b (Children p) x s = first_apart ChildrenDiffer children_apart p (whole_top a) (whole_top b) x.1 (s.2, s.3)

pub one_what : OneWhatLaw
one_what a b Language Language x y = refl
one_what a b Language Space x y = absurd (x y.0)
one_what a b Language (Tag q) x y = absurd (x y.0.0)
one_what a b Language (Attribute q j) x y = absurd (x y.0.0)
one_what a b Language (Children q) x y = absurd (x y.0.0)
one_what a b Space Language x y = absurd (y x.0)
one_what a b Space Space x y = refl
one_what a b Space (Tag q) x y = absurd (x.1 y.0.1)
one_what a b Space (Attribute q j) x y = absurd (x.1 y.0.1)
one_what a b Space (Children q) x y = absurd (x.1 y.0.1)
one_what a b (Tag p) Language x y = absurd (y x.0.0)
one_what a b (Tag p) Space x y = absurd (y.1 x.0.1)
one_what a b (Attribute p i) Language x y = absurd (y x.0.0)
one_what a b (Attribute p i) Space x y = absurd (y.1 x.0.1)
one_what a b (Children p) Language x y = absurd (y x.0.0)
one_what a b (Children p) Space x y = absurd (y.1 x.0.1)
one_what a b (Tag p) (Tag q) x y = ap Tag (one_first TagsDiffer TagsDiffer tags_apart tags_apart p q (whole_top a) (whole_top b) x.1 y.1).0
one_what a b (Tag p) (Attribute q j) x y = absurd (no_tag_attribute j (one_first TagsDiffer (AttributesDiffer j) tags_apart (attributes_apart j) p q (whole_top a) (whole_top b) x.1 y.1).1)
one_what a b (Tag p) (Children q) x y = absurd (no_tag_children (one_first TagsDiffer ChildrenDiffer tags_apart children_apart p q (whole_top a) (whole_top b) x.1 y.1).1)
one_what a b (Attribute p i) (Tag q) x y = absurd (no_tag_attribute i (one_first TagsDiffer (AttributesDiffer i) tags_apart (attributes_apart i) q p (whole_top a) (whole_top b) y.1 x.1).1)
one_what a b (Attribute p i) (Attribute q j) x y =
    let o = one_first (AttributesDiffer i) (AttributesDiffer j) (attributes_apart i) (attributes_apart j) p q (whole_top a) (whole_top b) x.1 y.1 in
    ap (λ (w : List ℕ). Attribute w i) o.0 ∙ ap (λ (w : ℕ). Attribute q w) (one_attribute i j o.1)
one_what a b (Attribute p i) (Children q) x y =
    absurd (no_attribute_children i (one_first (AttributesDiffer i) ChildrenDiffer (attributes_apart i) children_apart p q (whole_top a) (whole_top b) x.1 y.1).1)
one_what a b (Children p) (Tag q) x y = absurd (no_tag_children (one_first TagsDiffer ChildrenDiffer tags_apart children_apart q p (whole_top a) (whole_top b) y.1 x.1).1)
one_what a b (Children p) (Attribute q j) x y =
    absurd (no_attribute_children j (one_first (AttributesDiffer j) ChildrenDiffer (attributes_apart j) children_apart q p (whole_top a) (whole_top b) y.1 x.1).1)
one_what a b (Children p) (Children q) x y = ap Children (one_first ChildrenDiffer ChildrenDiffer children_apart children_apart p q (whole_top a) (whole_top b) x.1 y.1).0

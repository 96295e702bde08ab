-- Two tops are the same by themselves, or something differs: both trees are walked together in preorder.
use Rattle.std.proofs.Common.{◌≡◌, ℕ, zero, suc, Bool, true, false, List, [], ◌∷◌, length, Decides, ◌==◌, inl, inr, refl, arith}
use Rattle.std.specs.Prelude.{◌⊎◌}
use Rattle.std.proofs.lemmas.Bool.Decides.{Decides-eqb}
use Rattle.dwz_def_reading.specs.Documents.{Attr, Entries}
use Rattle.dwz_def_reading.specs.Trees.{End, Entry}
use Rattle.dwz_def_tops.specs.Alike.{SameAttrs, SameEntries, SameRefs, SameTarget, SameTop, SameValue}
use Rattle.dwz_def_tops.specs.Deciding.{same_by, same_int, same_option, same_plain}
use Rattle.dwz_def_tops.specs.Seen.{heads}
use Rattle.dwz_def_tops.specs.Spots.{EntryName, Top, Within, name_list, same_numbers}
use Rattle.dwz_def_tops.proofs.AlikeTests.{by_decides, int_decides, numbers_decide, option_decides, plain_decides}
use Rattle.dwz_def_explain.specs.Chain.{Whichever}
use Rattle.dwz_def_explain.specs.What.{AttributesDiffer, ChildrenDiffer, EquallyMany, FirstAmong, FirstDiffer, IsFirstUnequal, IsWhat}
use Rattle.dwz_def_explain.specs.What.{SameAttribute, SameHere, SameWhole, Subtree, TagsDiffer, subtree, whole_top}
use Rattle.dwz_def_explain.specs.declared.verdict.What.{What}
use Rattle.dwz_def_explain.specs.declared.verdict.What.TheVariants.{Attribute, Children, Language, Space, Tag}

-- ---- it holds, or not

abbrev OrNot : Type 0 → Type 0
OrNot P = P ⊎ (P → ⊥)

or_not : (P : Type 0) (t : Bool) → Decides t P → OrNot P
or_not P true d = inl (d.0 refl)
or_not P false d = inr (λ h. let e = d.1 h in absurd cc)

both_or_not : (P Q : Type 0) → OrNot P → OrNot Q → OrNot (P × Q)
both_or_not P Q (inl p) (inl q) = inl (p, q)
both_or_not P Q (inr n) q = inr (λ h. n h.0)
both_or_not P Q (inl p) (inr n) = inr (λ h. n h.1)

number_or_not : (m n : ℕ) → OrNot (m ≡ n)
number_or_not m n = or_not (m ≡ n) (m == n) (Decides-eqb m n)

target_or_not : (s t : EntryName) → OrNot (SameTarget Whichever s t)
target_or_not (Within a p) (Within b q) = both_or_not (p ≡ q) (Whichever a b) (or_not (p ≡ q) (same_numbers p q) (numbers_decide p q)) (inl tt)
target_or_not (Within a p) _ = inr (λ h. h)
target_or_not _ (Within b q) = inr (λ h. h)
target_or_not _ _ = inl tt

refs_or_not : (xs ys : List EntryName) → OrNot (SameRefs Whichever xs ys)
refs_or_not [] [] = inl tt
refs_or_not (x ∷ xs) (y ∷ ys) = both_or_not (SameTarget Whichever x y) (SameRefs Whichever xs ys) (target_or_not x y) (refs_or_not xs ys)
refs_or_not [] (y ∷ ys) = inr (λ h. h)
refs_or_not (x ∷ xs) [] = inr (λ h. h)

attribute_or_not : (a b : Attr EntryName) → OrNot (SameAttribute a b)
attribute_or_not a b =
    both_or_not (a.name ≡ b.name) (SameValue Whichever a.value b.value) (number_or_not a.name b.name)
    (both_or_not (a.value.plain ≡ b.value.plain) (SameRefs Whichever a.value.refs b.value.refs)
    (or_not (a.value.plain ≡ b.value.plain) (same_plain a.value.plain b.value.plain) (plain_decides a.value.plain b.value.plain)) (refs_or_not a.value.refs b.value.refs))

-- ---- two entries

-- the ways in which two entries may differ by themselves
data Way : Type 0 where
  ByTag : Way
  ByAttribute : ℕ → Way
  ByChildren : Way

abbrev way_differ : Way → Subtree → Subtree → Type 0
way_differ ByTag x y = TagsDiffer x y
way_differ (ByAttribute i) x y = AttributesDiffer i x y
way_differ ByChildren x y = ChildrenDiffer x y

attributes_found : (xs ys : List (Attr EntryName)) → SameAttrs Whichever xs ys ⊎ ((i : ℕ) × IsFirstUnequal i xs ys)
attributes_found [] [] = inl tt
attributes_found [] (y ∷ ys) = inr (zero, tt)
attributes_found (x ∷ xs) [] = inr (zero, tt)
attributes_found (x ∷ xs) (y ∷ ys) = join (attribute_or_not x y) (attributes_found xs ys) where
  join : OrNot (SameAttribute x y) → SameAttrs Whichever xs ys ⊎ ((i : ℕ) × IsFirstUnequal i xs ys) → SameAttrs Whichever (x ∷ xs) (y ∷ ys) ⊎ ((i : ℕ) × IsFirstUnequal i (x ∷ xs) (y ∷ ys))
  join (inr n) r = inr (zero, n)
  join (inl s) (inl r) = inl (s.0, s.1, r)
  join (inl s) (inr r) = inr (suc r.0, (s, r.1))

here_found : (x y : Subtree) → SameHere x y ⊎ ((w : Way) × way_differ w x y)
here_found x y = by (number_or_not x.node.tag y.node.tag) (attributes_found x.node.attrs y.node.attrs) (number_or_not (length (heads x.below)) (length (heads y.below))) where
  by : OrNot (x.node.tag ≡ y.node.tag) → SameAttrs Whichever x.node.attrs y.node.attrs ⊎ ((i : ℕ) × IsFirstUnequal i x.node.attrs y.node.attrs) → OrNot (EquallyMany x.below y.below)
      → SameHere x y ⊎ ((w : Way) × way_differ w x y)
  by (inr n) a c = inr (ByTag, n)
  by (inl t) (inr a) c = inr (ByAttribute a.0, (t, a.1))
  by (inl t) (inl a) (inl c) = inl ((t, a), c)
  by (inl t) (inl a) (inr n) = inr (ByChildren, ((t, a), n))

-- ---- trees

abbrev Found : Subtree → Subtree → Type 0
Found x y = (w : Way) × (path : List ℕ) × FirstDiffer (way_differ w) path x y

abbrev FoundAmong : Entries EntryName → Entries EntryName → Type 0
FoundAmong f g = (w : Way) × (i : ℕ) × (path : List ℕ) × FirstAmong (FirstDiffer (way_differ w) path) i f g

-- an entry, where what is found among its children is known
whole_found : (x y : Subtree) → SameHere x y ⊎ ((w : Way) × way_differ w x y) → (SameHere x y → SameEntries Whichever x.below y.below ⊎ FoundAmong x.below y.below) → SameWhole x y ⊎ Found x y
whole_found x y (inr d) below = inr (d.0, [], d.1)
whole_found x y (inl s) below = lift (below s) where
  lift : SameEntries Whichever x.below y.below ⊎ FoundAmong x.below y.below → SameWhole x y ⊎ Found x y
  lift (inl e) = inl (s.0, e)
  lift (inr f) = inr (f.0, f.1 ∷ f.2, (s, f.3))

entries_found : (f g : Entries EntryName) → EquallyMany f g → SameEntries Whichever f g ⊎ FoundAmong f g
unfolding heads
entries_found End End m = inl tt
entries_found End (Entry e f k) m = absurd (omega (arith, m))
entries_found (Entry d f k) End m = absurd (omega (arith, m))
entries_found (Entry d f k) (Entry e g l) m =
    join (whole_found (subtree d f) (subtree e g) (here_found (subtree d f) (subtree e g)) (λ s. entries_found f g s.1))
    (entries_found k l (omega (arith, m))) where
      join : SameWhole (subtree d f) (subtree e g) ⊎ Found (subtree d f) (subtree e g) → SameEntries Whichever k l ⊎ FoundAmong k l
          → SameEntries Whichever (Entry d f k) (Entry e g l) ⊎ FoundAmong (Entry d f k) (Entry e g l)
      join (inr h) r = inr (h.0, zero, h.1, h.2)
      join (inl s) (inl r) = inl (s.0, s.1, r)
      join (inl s) (inr r) = inr (r.0, suc r.1, r.2, (s, r.3))

-- ---- tops

what_of : (a b : Top) → a.language ≡ b.language → name_list a ≡ name_list b → Found (whole_top a) (whole_top b) → (what : What) × IsWhat a b what
what_of a b l n (ByTag, path, h) = (Tag path, ((l, n), h))
what_of a b l n (ByAttribute i, path, h) = (Attribute path i, ((l, n), h))
what_of a b l n (ByChildren, path, h) = (Children path, ((l, n), h))

-- they are the same by themselves, or something differs
pub found : (a b : Top) → SameTop Whichever a b ⊎ ((what : What) × IsWhat a b what)
found a b =
    by (or_not (a.language ≡ b.language) (same_option same_int a.language b.language) (option_decides same_int int_decides a.language b.language))
    (or_not (name_list a ≡ name_list b) (same_by same_numbers (name_list a) (name_list b)) (by_decides same_numbers numbers_decide (name_list a) (name_list b)))
    (whole_found (whole_top a) (whole_top b) (here_found (whole_top a) (whole_top b)) (λ s. entries_found a.below b.below s.1)) where
      by : OrNot (a.language ≡ b.language) → OrNot (name_list a ≡ name_list b) → SameWhole (whole_top a) (whole_top b) ⊎ Found (whole_top a) (whole_top b)
          → SameTop Whichever a b ⊎ ((what : What) × IsWhat a b what)
      by (inr x) n w = inr (Language, x)
      by (inl l) (inr x) w = inr (Space, (l, x))
      by (inl l) (inl n) (inl s) = inl (l, n, s.0, s.1)
      by (inl l) (inl n) (inr h) = inr (what_of a b l n h)

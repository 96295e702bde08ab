-- What differs between two tops by themselves: language, then spaces, then the first entries in preorder that differ.
use Rattle.std.specs.Prelude.{◌≡◌, ◌≢◌, ℕ, zero, suc, List, [], ◌∷◌, length}
use Rattle.dwz_def_reading.specs.Documents.{Attr, Entries, Node}
use Rattle.dwz_def_reading.specs.Trees.{Entry}
use Rattle.dwz_def_tops.specs.Alike.{SameEntries, SameNode, SameValue}
use Rattle.dwz_def_tops.specs.Seen.{heads}
use Rattle.dwz_def_tops.specs.Spots.{EntryName, Top, name_list}
use Rattle.dwz_def_explain.specs.Chain.{Whichever}
use Rattle.dwz_def_explain.specs.declared.verdict.What.{What}
use Rattle.dwz_def_explain.specs.declared.verdict.What.TheVariants.{Attribute, Children, Language, Space, Tag}

-- ---- two entries, each with all below it

pub record Subtree : Type 0 where
  pub node : Node EntryName
  pub below : Entries EntryName

abbrev pub subtree : Node EntryName → Entries EntryName → Subtree
subtree e children = record { node = e; below = children }

-- the same, with all below them
abbrev pub SameWhole : Subtree → Subtree → Type 0
SameWhole x y = SameNode Whichever x.node y.node × SameEntries Whichever x.below y.below

-- equally many entries beside each other
abbrev pub EquallyMany : Entries EntryName → Entries EntryName → Type 0
EquallyMany f g = length (heads f) ≡ length (heads g)

-- the same by themselves: one tag, equal attributes, equally many children
abbrev pub SameHere : Subtree → Subtree → Type 0
SameHere x y = SameNode Whichever x.node y.node × EquallyMany x.below y.below

-- ---- where two entries differ by themselves: in their tags, else in an attribute, else in how many children they have

abbrev pub TagsDiffer : Subtree → Subtree → Type 0
TagsDiffer x y = x.node.tag ≢ y.node.tag

-- one name, and equal values
abbrev pub SameAttribute : Attr EntryName → Attr EntryName → Type 0
SameAttribute a b = (a.name ≡ b.name) × SameValue Whichever a.value b.value

-- the attributes with that number, counted from 0, are the first that aren't the same; or one of the two isn't there
abbrev pub IsFirstUnequal : ℕ → List (Attr EntryName) → List (Attr EntryName) → Type 0
IsFirstUnequal i [] [] = ⊥
IsFirstUnequal zero (a ∷ attrs) (b ∷ others) = SameAttribute a b → ⊥
IsFirstUnequal zero _ _ = Unit {0}
IsFirstUnequal (suc i) (a ∷ attrs) (b ∷ others) = SameAttribute a b × IsFirstUnequal i attrs others
IsFirstUnequal (suc i) _ _ = ⊥

abbrev pub AttributesDiffer : ℕ → Subtree → Subtree → Type 0
AttributesDiffer index x y = (x.node.tag ≡ y.node.tag) × IsFirstUnequal index x.node.attrs y.node.attrs

abbrev pub ChildrenDiffer : Subtree → Subtree → Type 0
ChildrenDiffer x y = SameNode Whichever x.node y.node × (EquallyMany x.below y.below → ⊥)

-- ---- the first in preorder

-- the entries with the number i, counted from 0, are in that relation, and those before them are the same with all below them
abbrev pub FirstAmong : (Subtree → Subtree → Type 0) → ℕ → Entries EntryName → Entries EntryName → Type 0
FirstAmong R zero (Entry d f next) (Entry e g other) = R (subtree d f) (subtree e g)
FirstAmong R (suc i) (Entry d f next) (Entry e g other) =
    SameWhole (subtree d f) (subtree e g) × FirstAmong R i next other
FirstAmong R i _ _ = ⊥

-- the entries at that path are in that relation, and all that come before them in preorder are the same by themselves
abbrev pub FirstDiffer : (Subtree → Subtree → Type 0) → List ℕ → Subtree → Subtree → Type 0
FirstDiffer R [] x y = R x y
FirstDiffer R (i ∷ path) x y = SameHere x y × FirstAmong (FirstDiffer R path) i x.below y.below

-- ---- what differs of two tops

abbrev pub whole_top : Top → Subtree
whole_top t = subtree t.node t.below

-- in units of one language, and in spaces with the same names
abbrev pub SameSurroundings : Top → Top → Type 0
SameSurroundings a b = (a.language ≡ b.language) × (name_list a ≡ name_list b)

abbrev pub IsWhat : Top → Top → What → Type 0
IsWhat a b Language = a.language ≢ b.language
IsWhat a b Space = (a.language ≡ b.language) × (name_list a ≢ name_list b)
IsWhat a b (Tag path) = SameSurroundings a b × FirstDiffer TagsDiffer path (whole_top a) (whole_top b)
IsWhat a b (Attribute path index) = SameSurroundings a b × FirstDiffer (AttributesDiffer index) path (whole_top a) (whole_top b)
IsWhat a b (Children path) = SameSurroundings a b × FirstDiffer ChildrenDiffer path (whole_top a) (whole_top b)

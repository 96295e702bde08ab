-- Inner: entries of tops in preorder, and what labels tell of them.
use Rattle.std.specs.Prelude.{◌≡◌, ◌≢◌, ℕ, zero, suc, ◌-◌, true, false, List, [], ◌∷◌, ◌++◌, length, nat_lt, Option, Some, None}
use Rattle.dwz_def_reading.specs.Documents.{Attr, Entries, Node}
use Rattle.dwz_def_reading.specs.Trees.{End, Entry, size}
use Rattle.dwz_def_tops.specs.Alike.{SameAttrs, SameNode}
use Rattle.dwz_def_tops.specs.Seen.{heads}
use Rattle.dwz_def_tops.specs.Spots.{EntryName}
use Rattle.dwz_def_explain.specs.Chain.{Whichever}
use Rattle.dwz_def_explain.specs.What.{IsFirstUnequal, Subtree}
use Rattle.dwz_label.specs.Labels.{attr_label, each_counted, entries_label, node_label, number}
use Rattle.dwz_label_differences.specs.declared.entries.EntryLabel.{EntryLabel}
use Rattle.dwz_label_differences.specs.declared.differences.Difference.{Difference}
use Rattle.dwz_label_differences.specs.declared.differences.Difference.TheVariants.{Attribute, Children, Tag}
use Rattle.dwz_def_explain.specs.declared.verdict.What.{What}
use Rattle.dwz_def_explain.specs.declared.verdict.What.TheVariants.{Attribute as AttributeAt, Children as ChildrenAt, Tag as TagAt}

-- ---- attributes

-- all are the same, or these are the first that aren't, or that one of the two alone has
abbrev pub TellsUnequal : List (Attr EntryName) → List (Attr EntryName) → Option ℕ → Type 0
TellsUnequal xs ys None = SameAttrs Whichever xs ys
TellsUnequal xs ys (Some i) = IsFirstUnequal i xs ys

-- ---- entries in preorder

-- an entry, how many are below it, and how many of these are its children
pub record FlatEntry : Type 0 where
  pub below : ℕ
  pub children : ℕ
  pub node : Node EntryName

abbrev pub flat_entry : Node EntryName → Entries EntryName → FlatEntry
flat_entry e children = record { below = size children; children = length (heads children); node = e }

unfoldable pub flat : Entries EntryName → List FlatEntry
flat End = []
flat (Entry e children next) = flat_entry e children ∷ flat children ++ flat next

-- of an entry with all below it
abbrev pub whole : Subtree → List FlatEntry
whole x = flat_entry x.node x.below ∷ flat x.below

abbrev pub whole_label : Subtree → List ℕ
whole_label x = node_label (size x.below) x.node ++ entries_label x.below

-- the indexes of children that lead to the entry with a number, where the first entry has that index
unfoldable pub way : ℕ → Entries EntryName → ℕ → List ℕ
way i End k = []
way i (Entry e children next) zero = i ∷ []
way i (Entry e children next) (suc k) = elim (nat_lt k (size children)) as (λ _. List ℕ) [
  | true ↦ i ∷ way 0 children k
  | false ↦ way (suc i) next (k - size children)
]

-- the path from an entry to the one with a number, among it and all below it
abbrev pub path_of : Subtree → ℕ → List ℕ
path_of x zero = []
path_of x (suc k) = way 0 x.below k

-- ---- in a label

-- the row has how many are below the entry, and the label from its tag on
pub record IsEntryLabel (e : FlatEntry) (row : EntryLabel) : Type 0 where
  pub below : row.below ≡ e.below
  pub rest : List ℕ
  pub label : row.label.now ≡ number e.node.tag ++ (each_counted attr_label e.node.attrs ++ rest)

abbrev pub AreEntryLabels : List FlatEntry → List EntryLabel → Type 0
AreEntryLabels [] [] = Unit {0}
AreEntryLabels (e ∷ es) (row ∷ rows) = IsEntryLabel e row × AreEntryLabels es rows
AreEntryLabels _ _ = ⊥

-- ---- where two differ by themselves

abbrev pub SameEntry : FlatEntry → FlatEntry → Type 0
SameEntry d e = SameNode Whichever d.node e.node × (d.children ≡ e.children)

abbrev pub DifferBy : Difference → FlatEntry → FlatEntry → Type 0
DifferBy Tag d e = d.node.tag ≢ e.node.tag
DifferBy (Attribute i) d e = (d.node.tag ≡ e.node.tag) × IsFirstUnequal i d.node.attrs e.node.attrs
DifferBy Children d e = SameNode Whichever d.node e.node × (d.children ≡ e.children → ⊥)

-- they are the same by themselves, or differ so
abbrev pub TellsEntries : FlatEntry → FlatEntry → Option Difference → Type 0
TellsEntries d e None = SameEntry d e
TellsEntries d e (Some by) = DifferBy by d e

-- as far as both lists go their entries are the same by themselves
abbrev pub Agree : List FlatEntry → List FlatEntry → Type 0
Agree (d ∷ ds) (e ∷ es) = SameEntry d e × Agree ds es
Agree _ _ = Unit {0}

-- the entries with that number differ so, and those before them are the same by themselves
abbrev pub FirstAt : Difference → ℕ → List FlatEntry → List FlatEntry → Type 0
FirstAt by zero (d ∷ ds) (e ∷ es) = DifferBy by d e
FirstAt by (suc k) (d ∷ ds) (e ∷ es) = SameEntry d e × FirstAt by k ds es
FirstAt by k _ _ = ⊥

-- that entries at a path differ so
abbrev pub what_of : List ℕ → Difference → What
what_of path Tag = TagAt path
what_of path (Attribute i) = AttributeAt path i
what_of path Children = ChildrenAt path

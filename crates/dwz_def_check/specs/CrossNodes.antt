-- Inner: nodes that show the tops of two files and of their common one, and behind these their roots and spaces.
use Rattle.std.specs.Prelude.{◌⊎◌, ◌≡◌, ◌↔◌, ℕ, ◌+◌, ◌<◌, Bool, true, false, List, [], ◌∷◌, ◌++◌, length, slice_index_or, Some, None}
use Rattle.dwz_def_reading.specs.Documents.{Compile, DwUnit, Entries, Kind, Node as EntryNode, node_map}
use Rattle.dwz_def_reading.specs.Trees.{End, Entry}
use Rattle.dwz_def_tops.specs.Lists.{Nth}
use Rattle.dwz_def_tops.specs.Spaces.{space_text}
use Rattle.dwz_label.specs.Shown.{nth_label}
use Rattle.dwz_def_cross.specs.Tops.{CrossTop, WithCommon}
use Rattle.dwz_nodes.specs.Graph.{Node, label_at, targets_at}
use Rattle.dwz_def_check.specs.CrossNames.{CrossName, IsNthTop, Side, cross_tops}
use Rattle.dwz_def_check.specs.CrossLabels.{cross_label, cross_targets, cross_top_map, lone_label, lone_targets}

-- ---- roots and spaces

-- spaces in preorder
unfoldable pub spaces_in : {P : Type 0} → Entries P → List (EntryNode P)
spaces_in End = []
spaces_in {P} (Entry e children next) = elim (space_text e) as (λ _. List (EntryNode P)) [
  | None ↦ spaces_in next
  | Some text ↦ e ∷ spaces_in children ++ spaces_in next
]

abbrev pub lone_of : {P : Type 0} → Kind P → DwUnit P → List (EntryNode P)
lone_of Compile u = u.root ∷ spaces_in u.below
lone_of _ u = []

-- the root of each compile unit and its spaces, which are in no top
unfoldable pub lone_entries : {P : Type 0} → List (DwUnit P) → List (EntryNode P)
lone_entries [] = []
lone_entries (u ∷ units) = lone_of u.kind u ++ lone_entries units

-- the root or space with that number
abbrev pub IsNthLone : {P : Type 0} → Side P → ℕ → EntryNode P → Type 0
IsNthLone s n e = Nth s.lone (lone_entries s.files.own) n e

-- ---- the numbers of two files

-- Tops are numbered first: those of the old file, those of the new one, and the common ones; and then the roots and spaces of the old
-- file, and of the new one. The common units are those of both sides.
abbrev pub tops_before : {P Q : Type 0} → WithCommon P → WithCommon Q → ℕ
tops_before v w = length (cross_tops v.own) + length (cross_tops w.own)

abbrev pub tops_together : {P Q : Type 0} → WithCommon P → WithCommon Q → ℕ
tops_together v w = tops_before v w + length (cross_tops v.common)

abbrev pub node_count : {P Q : Type 0} → WithCommon P → WithCommon Q → ℕ
node_count v w = tops_together v w + length (lone_entries v.own) + length (lone_entries w.own)

-- the old file beside the new one, and the new one beside the old one
abbrev pub old_side : {P Q : Type 0} → WithCommon P → WithCommon Q → (P → CrossName) → Side P
old_side v w name = record { files = v; own = 0; common = tops_before v w; lone = tops_together v w; name = name }

abbrev pub new_side : {P Q : Type 0} → WithCommon P → WithCommon Q → (Q → CrossName) → Side Q
new_side v w name = record {
  files = w;
  own = length (cross_tops v.own);
  common = tops_before v w;
  lone = tops_together v w + length (lone_entries v.own);
  name = name;
}

-- ---- nodes

-- the top, or the root or space, with that number has this label and these targets
abbrev pub IsShownAs : {P : Type 0} → Side P → ℕ → List ℕ → List ℕ → Type 0
IsShownAs {P} s n label targets =
    ((t : CrossTop P) × IsNthTop s n t × (cross_label (cross_top_map s.name t) ≡ label) × (cross_targets (cross_top_map s.name t) ≡ targets))
    ⊎ ((e : EntryNode P) × IsNthLone s n e × (lone_label (node_map s.name e) ≡ label) × (lone_targets (node_map s.name e) ≡ targets))

-- each has a node with its number and its targets
abbrev pub HasNodes : {P : Type 0} → Side P → List Node → Type 0
HasNodes s g = (n : ℕ) (label targets : List ℕ) → IsShownAs s n label targets → (n < length g) × (targets_at g n ≡ targets)

-- nodes of two files: what two of them have as labels are numbers, which are equal exactly if what these show has equal labels
pub record AreCrossNodes {P Q : Type 0} (s : Side P) (t : Side Q) (g : List Node) : Type 0 where
  pub old : HasNodes s g
  pub new : HasNodes t g
  pub labels : (m n : ℕ) (a b xs ys : List ℕ) → IsShownAs s m a xs → IsShownAs t n b ys → (label_at g m ≡ label_at g n) ↔ (a ≡ b)

-- ---- lists of which nodes are made

-- each has its label and its targets in the lists, at its number
abbrev pub AreInLists : {P : Type 0} → Side P → List (List ℕ) → List (List ℕ) → Type 0
AreInLists s labels targets = (n : ℕ) (label ts : List ℕ) → IsShownAs s n label ts
    → (n < length labels) × (nth_label labels n ≡ label) × (slice_index_or targets n [] ≡ ts)

-- each of so many may move, which is what decides elsewhere whether it is compared
abbrev pub AreAllFree : ℕ → List Bool → Type 0
AreAllFree count movable = (length movable ≡ count) × ((n : ℕ) → n < count → slice_index_or movable n false ≡ true)

-- What labels, flags and lists of targets show of tops, and the nodes that are made of them.
use Rattle.std.specs.Prelude.{◌≡◌, ℕ, ◌<◌, Bool, true, false, List, [], length, if◌then◌else◌, slice_index, slice_index_or}
use Rattle.dwz_def_reading.specs.Meanings.{IfSo}
use Rattle.dwz_def_reading.specs.Lists.{In}
use Rattle.dwz_nodes.specs.Graph.{Node, node, node_at}
use Rattle.dwz_nodes.specs.Looks.{IsLeastBelow}
use Rattle.dwz_def_tops.specs.Alike.{Movable}
use Rattle.dwz_def_tops.specs.Deciding.{AreMovable}
use Rattle.dwz_def_tops.specs.Spots.{EntryName, FileUnit, Top, tops_of}
use Rattle.dwz_def_tops.specs.Targets.{targets_of}
use Rattle.dwz_label.specs.Labels.{label_of}

abbrev pub nth_label : List (List ℕ) → ℕ → List ℕ
nth_label labels n = slice_index_or labels n []

-- of each top whether it may move, and of one that may its label and its targets
pub record AreShown (units : List (FileUnit EntryName)) (labels : List (List ℕ)) (movable : List Bool) (targets : List (List ℕ)) : Type 0
  where
    pub flags : AreMovable units movable
    pub labels_len : length labels ≡ length (tops_of units)
    pub labels_are : (t : Top) → In t (tops_of units) → Movable units t.number → nth_label labels t.number ≡ label_of t
    pub targets_len : length targets ≡ length (tops_of units)
    pub targets_are : (t : Top) → In t (tops_of units) → Movable units t.number → slice_index_or targets t.number [] ≡ targets_of t

-- m is the least that may move and is the same as n
abbrev pub IsLeastFree : (ℕ → ℕ → Type 0) → List Bool → ℕ → ℕ → Type 0
IsLeastFree Same movable n m = IsLeastBelow (length movable) (λ k. (slice_index_or movable k false ≡ true) × Same n k) m

-- of each that may move the least that may and is the same, and of each other one its own number
pub record AreLeastOf (Same : ℕ → ℕ → Type 0) (movable : List Bool) (least : List ℕ) : Type 0 where
  pub len : length least ≡ length movable
  pub each : (n : ℕ) → n < length movable
      → IfSo (slice_index_or movable n false) (IsLeastFree Same movable n (slice_index least n)) (slice_index least n ≡ n)

-- the same is here to have the same label
abbrev pub AreFirstEquals : List (List ℕ) → List Bool → List ℕ → Type 0
AreFirstEquals labels movable firsts = AreLeastOf (λ n m. nth_label labels n ≡ nth_label labels m) movable firsts

-- a node for each, with these targets if it may move, and else with none
pub record AreMadeOf (firsts : List ℕ) (movable : List Bool) (targets : List (List ℕ)) (g : List Node) : Type 0 where
  pub len : length g ≡ length firsts
  pub each : (n : ℕ) → n < length firsts
      → node_at g n ≡ node (slice_index firsts n) (if slice_index_or movable n false then slice_index_or targets n [] else [])

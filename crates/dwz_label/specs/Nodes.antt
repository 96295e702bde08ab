-- Nodes that show tops, and the least alike tops.
use Rattle.std.specs.Prelude.{◌≡◌, ℕ, true, List, [], length, slice_index}
use Rattle.dwz_def_reading.specs.Meanings.{IfSo}
use Rattle.dwz_def_reading.specs.Lists.{In}
use Rattle.dwz_nodes.specs.Graph.{Node, label_at, targets_at}
use Rattle.dwz_nodes.specs.Looks.{IsLeastBelow}
use Rattle.dwz_def_tops.specs.Alike.{Alike, InScope, Movable, SameTop, TopScope}
use Rattle.dwz_def_tops.specs.Deciding.{is_movable}
use Rattle.dwz_def_tops.specs.Spots.{EntryName, FileUnit, Top, tops_of}
use Rattle.dwz_def_tops.specs.Targets.{targets_of}

-- ---- bare trees

-- whatever the tops are
abbrev pub Any : ℕ → ℕ → Type 0
Any m n = Unit {0}

-- the same language, the same name list and the same bare tree: references go to the same paths, in whichever tops
abbrev pub SameBare : Top → Top → Type 0
SameBare a b = SameTop Any a b

-- ---- nodes

-- the number of a movable top that is the same but for the tops of its targets
pub record IsLikeness (units : List (FileUnit EntryName)) (t : Top) (n : ℕ) : Type 0 where
  pub top : Top
  pub is_top : In top (tops_of units)
  pub number : top.number ≡ n
  pub movable : Movable units n
  pub same : SameBare t top

-- the node of a movable top: as its label the least such number, as its targets the tops that its references go into
pub record ShowsMovable (units : List (FileUnit EntryName)) (g : List Node) (t : Top) : Type 0 where
  pub label : IsLeastBelow (length (tops_of units)) (IsLikeness units t) (label_at g t.number)
  pub targets : targets_at g t.number ≡ targets_of t

-- the node of another top: as its label its own number, and no targets
pub record ShowsBound (g : List Node) (t : Top) : Type 0 where
  pub label : label_at g t.number ≡ t.number
  pub targets : targets_at g t.number ≡ []

-- one node for each top, in order
pub record AreTopNodes (units : List (FileUnit EntryName)) (g : List Node) : Type 0 where
  pub len : length g ≡ length (tops_of units)
  pub each : (t : Top) → In t (tops_of units) → IfSo (is_movable units t) (ShowsMovable units g t) (ShowsBound g t)

-- ---- the least alike tops

-- the number of the least top that is alike to t
abbrev pub IsLeastAlike : List (FileUnit EntryName) → Top → ℕ → Type 0
IsLeastAlike units t n = IsLeastBelow (length (tops_of units)) (Alike units t.number) n

-- of each movable top the number of the least top that is alike to it, in whichever file; of each other one its own
pub record AreLeast (units : List (FileUnit EntryName)) (least : List ℕ) : Type 0 where
  pub len : length least ≡ length (tops_of units)
  pub each : (t : Top) → In t (tops_of units)
      → IfSo (is_movable units t) (IsLeastAlike units t (slice_index least t.number)) (slice_index least t.number ≡ t.number)

-- both may move, in one scope, and their least alike tops are one
pub record HaveOneLeast (scope : TopScope) (units : List (FileUnit EntryName)) (least : List ℕ) (a b : Top) : Type 0 where
  pub first : is_movable units a ≡ true
  pub second : is_movable units b ≡ true
  pub scoped : InScope scope a b
  pub same : slice_index least a.number ≡ slice_index least b.number

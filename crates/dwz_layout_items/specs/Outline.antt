-- Tops and spaces of a unit in a flat list: what it shows.
use Rattle.std.specs.Prelude.{◌≡◌, ℕ, ◌≤◌, Bool, true, List, [], ◌∷◌, ◌||◌, drop, length, not, take}
use Rattle.dwz_def_reading.specs.Documents.{Node, entries_map, node_map}
use Rattle.dwz_def_tops.specs.Spots.{ASpace, ATop, EntryName, Nothing, Row, Top}
use Rattle.dwz_def_images.specs.Plan.{Pinned, row_pinned, row_staying}
use Rattle.dwz_layout_items.specs.Order.{Names}
use Rattle.dwz_layout_items.specs.declared.order.Outer.{Outer}
use Rattle.dwz_layout_items.specs.declared.order.ItemKind.TheVariants.{Space as TheSpace, Top as TheTop}

-- what numbers stand for, by what places are replaced, which tops leave their units, and which tops and spaces are pinned
pub record View : Type 0 where
  pub names : Names EntryName
  pub image : EntryName → EntryName
  pub gone : ℕ → Bool
  pub pinned : Pinned

pub record ShowsTop (v : View) (x : Outer) (t : Top) : Type 0 where
  pub what : x.what ≡ TheTop t.number
  pub node : v.names.top t.number ≡ node_map v.image t.node
  pub below : v.names.below t.number ≡ entries_map v.image t.below
  pub inside : x.inside ≡ 0
  pub stays : x.stays ≡ not (v.gone t.number)
  pub pinned : x.pinned ≡ v.pinned.top t.number

-- a space is pinned too if something that stays in it is
pub record ShowsSpace (v : View) (x : Outer) (e : Node EntryName) (inner : Row) : Type 0 where
  pub number : ℕ
  pub what : x.what ≡ TheSpace number
  pub node : v.names.space number ≡ node_map v.image e
  pub stays : x.stays ≡ true
  pub pinned : x.pinned ≡ (v.pinned.space e.at || row_pinned v.pinned (row_staying v.gone inner))

-- the list has the tops and spaces of a row, in preorder
abbrev pub ShowsRow : View → Row → List Outer → Type 0
ShowsRow v Nothing xs = xs ≡ []
ShowsRow v (ATop t next) [] = ⊥
ShowsRow v (ATop t next) (x ∷ xs) = ShowsTop v x t × ShowsRow v next xs
ShowsRow v (ASpace e inner next) [] = ⊥
ShowsRow v (ASpace e inner next) (x ∷ xs) = ShowsSpace v x e inner × (x.inside ≤ length xs) × ShowsRow v inner (take x.inside xs)
    × ShowsRow v next (drop x.inside xs)

-- What tops and spaces are named by, and what is known of them by their numbers.
use Rattle.std.specs.Prelude.{◌≡◌, ℕ, Bool, List, not}
use Rattle.dwz_def_reading.specs.Documents.{Node, entries_map, node_map}
use Rattle.dwz_def_tops.specs.Spots.{EntryName, FileUnit, Top, tops_of}
use Rattle.dwz_def_reading.specs.Lists.{Each}
use Rattle.dwz_layout_items.specs.Order.{Names}
use Rattle.dwz_layout_items.specs.Outline.{View}
use Rattle.dwz_def_images.specs.Moves.{Move}
use Rattle.dwz_def_images.specs.Plan.{Pinned, pinned_of}
use Rattle.dwz_layout_order.specs.declared.marks.Marks.{Marks}
use Rattle.dwz_layout_order.specs.Marks.{flag_at, mark_at}
use Rattle.dwz_layout_order.specs.Spaces.{Numbered, spaces_of}

-- ---- names

pub record NamesTop (f : EntryName → EntryName) (n : Names EntryName) (t : Top) : Type 0 where
  pub node : n.top t.number ≡ node_map f t.node
  pub below : n.below t.number ≡ entries_map f t.below

abbrev pub NamesSpace : (EntryName → EntryName) → Names EntryName → ℕ → Node EntryName → Type 0
NamesSpace f n k e = n.space k ≡ node_map f e

-- where places are replaced so, tops and spaces have these names by their numbers
pub record NamesAll (f : EntryName → EntryName) (units : List (FileUnit EntryName)) (n : Names EntryName) : Type 0 where
  pub tops : Each (NamesTop f n) (tops_of units)
  pub spaces : Numbered (NamesSpace f n) 0 (spaces_of units)

-- ---- what is known

-- whether the top stays in its unit, and whether it is pinned
pub record MarksTop (gone : ℕ → Bool) (p : Pinned) (m : Marks) (t : Top) : Type 0 where
  pub stays : (mark_at m.tops.now t.number).stays ≡ not (gone t.number)
  pub pinned : (mark_at m.tops.now t.number).pinned ≡ p.top t.number

-- whether the space is pinned
abbrev pub MarksSpace : Pinned → Marks → ℕ → Node EntryName → Type 0
MarksSpace p m k e = flag_at m.spaces.now k ≡ p.space e.at

-- where these tops move, of each top and each space of units
pub record MarksAll (moved : Move) (units : List (FileUnit EntryName)) (m : Marks) : Type 0 where
  pub tops : Each (MarksTop moved.gone (pinned_of units) m) (tops_of units)
  pub spaces : Numbered (MarksSpace (pinned_of units) m) 0 (spaces_of units)

-- both, of a top and of a space
pub record IsTop (v : View) (m : Marks) (t : Top) : Type 0 where
  pub names : NamesTop v.image v.names t
  pub marks : MarksTop v.gone v.pinned m t

pub record IsSpace (v : View) (m : Marks) (k : ℕ) (e : Node EntryName) : Type 0 where
  pub names : NamesSpace v.image v.names k e
  pub marks : MarksSpace v.pinned m k e

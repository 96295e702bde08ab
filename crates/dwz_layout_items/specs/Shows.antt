-- What numbers stand for in the units after.
use Rattle.std.specs.Prelude.{◌≡◌, ℕ, List}
use Rattle.dwz_def_reading.specs.Documents.{DwUnit, entries_map, node_map}
use Rattle.dwz_def_tops.specs.Spots.{EntryName, FileUnit}
use Rattle.dwz_def_images.specs.Moves.{Move, image_in}
use Rattle.dwz_def_images.specs.Plan.{import_of, pinned_of}
use Rattle.dwz_layout_items.specs.Order.{Names}
use Rattle.dwz_layout_items.specs.Outline.{View}

-- the names of the unit with that number, which is kept
pub record NamesKept (m : Move) (i : ℕ) (u : DwUnit EntryName) (n : Names EntryName) : Type 0 where
  pub root : n.root ≡ node_map (image_in m) u.root
  pub whole : n.whole ≡ entries_map (image_in m) u.below
  pub import : (part : ℕ) → n.import part ≡ import_of i part

-- what a unit's tops and spaces are seen with, where some move
abbrev pub view_of : Move → List (FileUnit EntryName) → Names EntryName → View
view_of m units names = record { names = names; image = image_in m; gone = m.gone; pinned = pinned_of units }

-- Inner: where a top is found by its number among those of all files, and the way out through the spaces around it.
use Rattle.std.specs.Prelude.{◌≡◌, ℕ, ◌-◌, ◌==◌, List, None, Option, Some, if◌then◌else◌, nat_lt, slice_get}
use Rattle.dwz_def_reading.specs.Files.{around_of}
use Rattle.dwz_def_tops.specs.Spots.{SpaceName}
use Rattle.dwz_graph.specs.declared.file.File.{File}
use Rattle.dwz_graph.specs.declared.index.SpaceEntry.{SpaceEntry}
use Rattle.dwz_graph.specs.declared.index.TopEntry.{TopEntry}
use Rattle.dwz_graph.specs.Chains.{AreSpacesAt, IsOut}
use Rattle.dwz_graph.specs.Index.{Index}
use Rattle.dwz_unit.specs.Rows.{units_of}
use Rattle.dwz_graph_view.specs.declared.spaces.TopSpot.{TopSpot}

-- the item with a number, where the first one has that number
abbrev pub item_with : {X : Type 0} → ℕ → List X → ℕ → Option X
item_with first items number = if nat_lt number first then None else slice_get items (number - first)

-- the top of a file with a number among those of all files
abbrev pub own_top : Index → ℕ → Option TopEntry
own_top x number = item_with x.starts.top x.tops number

-- the space before a number
abbrev pub space_before : Index → ℕ → Option SpaceEntry
space_before x number = if number == 0 then None else item_with x.starts.space x.spaces (number - 1)

-- the top with that number is there: it is that one of that file
pub record HasTopAt (indexes : List Index) (number : ℕ) (spot : TopSpot) : Type 0 where
  pub x : Index
  pub there : slice_get indexes spot.file ≡ Some x
  pub own : own_top x number ≡ Some spot.top

-- the spaces on the way out from the one before that number have these names, in the file with these bytes: each space before the one
-- that it is in
pub record IsWayOut (bytes : List ℕ) (f : File) (x : Index) (inner : ℕ) (names : List SpaceName) : Type 0 where
  pub unit : ℕ
  pub entries : List ℕ
  pub out : IsOut x.starts.space x.spaces inner entries
  pub named : AreSpacesAt (units_of f.units) (around_of bytes (units_of f.units)) unit names entries

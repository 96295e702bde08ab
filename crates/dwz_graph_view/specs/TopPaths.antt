-- The way from a top down to an entry in it.
use Rattle.std.specs.Prelude.{◌≡◌, ℕ, ◌<◌, List, length, Option, Some, None, reverse, slice_get}
use Rattle.dwz_def_tops.specs.Spots.{EntryName, Within}
use Rattle.dwz_graph.specs.Index.{Index, IsIndex}

-- the child indexes from its top down to the entry with that name, where it is in one; a name has them the other way round
abbrev pub path_from_top : EntryName → Option (List ℕ)
path_from_top (Within top path) = Some (reverse path)
path_from_top _ = None

-- Inner: the index shows that the entry with a number has that name.
pub record IsNamedBy (x : Index) (i : ℕ) (s : EntryName) : Type 0 where
  pub names : List EntryName
  pub shows : IsIndex names x
  pub there : slice_get names i ≡ Some s
  pub within : i < length x.steps

-- What is known of the names of entries.
use Rattle.std.specs.Prelude.{◌≡◌, ℕ, ◌<◌, List, Some, slice_get}
use Rattle.dwz_def_tops.specs.Spots.{EntryName}
use Rattle.dwz_def_reading.specs.Units.{RawUnit, entries_in}
use Rattle.dwz_graph.specs.Index.{Index, IsIndex}
use Rattle.dwz_graph.specs.Resolved.{place_at}

-- where places have names: the index shows those of the entries
pub record KnowsNames (raw : List RawUnit) (name : ℕ → EntryName) (x : Index) : Type 0 where
  pub names : List EntryName
  pub shown : IsIndex names x
  pub named : (i : ℕ) → i < entries_in raw → slice_get names i ≡ Some (name (place_at raw i))

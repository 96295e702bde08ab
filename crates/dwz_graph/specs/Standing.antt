-- Where entries and tops of a file stand, by their numbers.
use Rattle.std.specs.Prelude.{◌≡◌, ℕ, ◌+◌, ◌<◌, List, Some, slice_get}
use Rattle.dwz_def_tops.specs.Spots.{EntryName, Top}
use Rattle.dwz_def_reading.specs.Trees.{size}
use Rattle.dwz_def_reading.specs.Units.{RawUnit, entries_in}
use Rattle.dwz_graph.specs.FlatTops.{HasTopOfFile}
use Rattle.dwz_def_reading.specs.Documents.{DwUnit}
use Rattle.dwz_def_reading.specs.Meanings.{Around}
use Rattle.dwz_graph.specs.Resolved.{place_at}

-- the entries have the names of their places, by their numbers
abbrev pub NamesEntries : List RawUnit → (ℕ → EntryName) → List EntryName → Type 0
NamesEntries raw name names = (i : ℕ) → i < entries_in raw → slice_get names i ≡ Some (name (place_at raw i))

-- The top stands from the entry with one number to before that with another.
pub record StandsAt (around : Around ℕ) (name : ℕ → EntryName) (raw : List RawUnit) (units : List (DwUnit ℕ)) (file unit : ℕ) (t : Top)
    (first end : ℕ) : Type 0 where
  pub stands : HasTopOfFile around name raw units file unit t
  pub from : stands.top.p.before ≡ first
  pub to : first + 1 + size stands.top.c ≡ end

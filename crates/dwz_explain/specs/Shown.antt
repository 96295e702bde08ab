-- Inner: entries of a file by their numbers, and what they mean.
use Rattle.std.specs.Prelude.{◌≡◌, ℕ, List}
use Rattle.dwz_def_reading.specs.Documents.{Entries, entries_map}
use Rattle.dwz_def_reading.specs.Entries.{RawEntry}
use Rattle.dwz_def_reading.specs.Meanings.{MeanEntries, MeaningContext}
use Rattle.dwz_def_reading.specs.Trees.{End, Entry, Forest}
use Rattle.dwz_def_reading.specs.Units.{RawUnit}
use Rattle.dwz_def_tops.specs.Spots.{EntryName}
use Rattle.dwz_graph.specs.Building.{IsList}
use Rattle.dwz_def_explain.specs.What.{Subtree}

-- the entries from one number to before another mean the list, with names in place of places
pub record MeansList (s : MeaningContext ℕ) (name : ℕ → EntryName) (raw : List RawUnit) (first end : ℕ) (f : Entries EntryName) : Type
    0 where
  pub list : Forest RawEntry
  pub meant : Entries ℕ
  pub stands : IsList raw first end list
  pub means : MeanEntries s list meant
  pub are : f ≡ entries_map name meant

-- the entry with a number, with all below it, means the subtree
pub record MeansSubtree (s : MeaningContext ℕ) (name : ℕ → EntryName) (raw : List RawUnit) (entry : ℕ) (x : Subtree) : Type 0 where
  pub end : ℕ
  pub is : MeansList s name raw entry end (Entry x.node x.below End)

-- an entry with that number is there, with all below it
pub record HasSubtree (raw : List RawUnit) (entry : ℕ) : Type 0 where
  pub end : ℕ
  pub top : RawEntry
  pub children : Forest RawEntry
  pub is : IsList raw entry end (Entry top children End)

-- What is known of a file where its tops are looked at.
use Rattle.std.specs.Prelude.{◌≡◌, ℕ, ◌||◌, Bool, List, Option, map}
use Rattle.dwz_def_tops.specs.Alike.{any_entry}
use Rattle.dwz_def_tops.specs.Spots.{EntryName}
use Rattle.dwz_def_reading.specs.Units.{RawUnit, entries_in}
use Rattle.dwz_graph.specs.Names.{top_in}
use Rattle.dwz_def_reading.specs.Documents.{DwUnit, Node}
use Rattle.dwz_def_reading.specs.Meanings.{Around}
use Rattle.dwz_graph.specs.Parts.{AreParted}
use Rattle.dwz_graph.specs.Resolved.{AreEntries, place_at}

-- the tops that references to the entries with these numbers go into
abbrev pub tops_of_refs : (ℕ → EntryName) → List RawUnit → List ℕ → List (Option ℕ)
tops_of_refs name raw refs = map (λ i. top_in (name (place_at raw i))) refs

-- The references of each entry begin at its start, and the tops are those that they go into.
pub record KnowsRefs (around : Around ℕ) (raw : List RawUnit) (name : ℕ → EntryName) (refs starts : List ℕ) (into : List (Option ℕ)) : Type
    0 where
  pub parted : AreParted around raw (entries_in raw) refs starts
  pub entries : AreEntries raw refs
  pub into_are : into ≡ tops_of_refs name raw refs

-- an entry of the unit passes the test
abbrev pub in_unit : (Node EntryName → Bool) → DwUnit EntryName → Bool
in_unit test u = test u.root || any_entry test u.below

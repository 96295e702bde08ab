-- The names of the entries of all files: the number of an entry among all is where its name stands.
use Rattle.std.specs.Prelude.{◌≡◌, ℕ, ◌+◌, List, [], ◌∷◌, ◌++◌, length, Some, slice_get}
use Rattle.dwz_def_reading.specs.Documents.{Doc}
use Rattle.dwz_def_tops.specs.Spots.{EntryName, Within, tops_among, tops_of, units_of}
use Rattle.dwz_graph.specs.Names.{names_from}

-- of files in order, the first unit and the first top of which have these numbers
unfoldable pub names_of_files : ℕ → ℕ → List (Doc ℕ) → List EntryName
names_of_files unit top [] = []
names_of_files unit top (doc ∷ docs) = names_from unit top doc.units ++ names_of_files (unit + length doc.units)
    (top + tops_among doc.units) docs

abbrev pub all_names : List (Doc ℕ) → List EntryName
all_names docs = names_of_files 0 0 docs

-- these are the entries of the tops, by their numbers among all
pub record AreTopEntries (docs : List (Doc ℕ)) (entries : List ℕ) : Type 0 where
  pub many : length entries ≡ length (tops_of (units_of docs))
  pub each : (top n : ℕ) → slice_get entries top ≡ Some n → slice_get (all_names docs) n ≡ Some (Within top [])

-- these names stand among all from that number on
pub record StandFrom (all names : List EntryName) (start : ℕ) : Type 0 where
  pub before : List EntryName
  pub after : List EntryName
  pub parts : all ≡ before ++ (names ++ after)
  pub start_is : length before ≡ start

-- The indexes of several files: units, tops and spaces are numbered over all of them.
use Rattle.std.specs.Prelude.{◌≡◌, ℕ, ◌+◌, List, [], ◌∷◌, length}
use Rattle.dwz_def_reading.specs.Documents.{Doc}
use Rattle.dwz_def_tops.specs.Spots.{tops_among}
use Rattle.dwz_graph.specs.declared.index.Starts.{Starts}
use Rattle.dwz_graph.specs.Index.{HasTops, Index, IsIndex}
use Rattle.dwz_graph.specs.Names.{names_from}

abbrev pub first_starts : Starts
first_starts = record { unit = 0; top = 0; space = 0 }

-- what is behind a file that begins with these numbers
abbrev pub starts_behind : Starts → Doc ℕ → Index → Starts
starts_behind s doc x = record { unit = s.unit + length doc.units; top = s.top + tops_among doc.units; space = s.space + length x.spaces }

-- the index shows what the entries of the file are, which begins with these numbers
pub record IsIndexOf (s : Starts) (doc : Doc ℕ) (x : Index) : Type 0 where
  pub names : IsIndex (names_from s.unit s.top doc.units) x
  pub tops : HasTops s doc.units x

-- one index for each file, the first of which begins with these numbers; the last numbers are those behind all
abbrev pub AreIndexed : Starts → List (Doc ℕ) → List Index → Starts → Type 0
AreIndexed s [] [] end = s ≡ end
AreIndexed s (doc ∷ docs) (x ∷ indexes) end = IsIndexOf s doc x × AreIndexed (starts_behind s doc x) docs indexes end
AreIndexed s _ _ end = ⊥

-- the indexes of files
pub record AreIndexes (docs : List (Doc ℕ)) (indexes : List Index) : Type 0 where
  pub end : Starts
  pub are : AreIndexed first_starts docs indexes end

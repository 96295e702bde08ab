-- What is found of files and of a finished common file beside them, before it is known what is taken.
use Rattle.std.specs.Prelude.{◌≡◌, ℕ, Bool, List, length}
use Rattle.dwz_def_reading.specs.Documents.{Doc}
use Rattle.dwz_def_taken.specs.Beside.{Reused, reused_of, together}
use Rattle.dwz_match.specs.MatchRows.{AreKinRows, ShowMatch}
use Rattle.dwz_match.specs.RowLaws.{HaveTops, ShowSpaces}
use Rattle.dwz_takes.specs.declared.rows.Rows.{Rows}
use Rattle.dwz_takes.specs.Images.{AreApart}
use Rattle.dwz_takes.specs.Takes.{AreRows}
use Rattle.dwz_reuse.specs.declared.found.Matching.{Matching}

-- rows of all units have the tops, and show the spaces, whose name lists have these numbers
pub record AreLookRows (docs : List (Doc ℕ)) (common : Doc ℕ) (movable : List Bool) (rows : Rows) : Type 0 where
  pub name : ℕ → List (List ℕ)
  pub tops : HaveTops docs common movable rows
  pub spaces : ShowSpaces (reused_of docs common) name rows
  pub units : length rows.unit_tops ≡ length (together (reused_of docs common))

-- all of it is told by numbers, and a top is of one unit
pub record IsMatching (m : Matching) : Type 0 where
  pub rows : AreRows m.rows
  pub apart : AreApart m.rows
  pub kin : AreKinRows (length m.rows.classes) m.kin m.targets

-- it shows files and the common file
pub record ShowsMatching (r : Reused) (m : Matching) : Type 0 where
  pub name : ℕ → List (List ℕ)
  pub shows : ShowMatch r name m.rows m.kin m.targets

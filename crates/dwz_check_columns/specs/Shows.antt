-- What columns say of two files and of their common one: the rows of their units.
use Rattle.std.specs.Prelude.{◌≡◌, ℕ, List, [], map, Option, Some, None}
use Rattle.dwz_def_reading.specs.Documents.{DwUnit, unit_map}
use Rattle.dwz_def_cross.specs.CrossSame.{EachTwo}
use Rattle.dwz_def_cross.specs.Tops.{WithCommon, whole_units}
use Rattle.dwz_def_check.specs.CrossNames.{CrossName, IsWellRead}
use Rattle.dwz_def_check.specs.CrossNodes.{new_side, node_count, old_side}
use Rattle.dwz_def_check.specs.CrossRows.{IsCrossRow}
use Rattle.dwz_check_index.specs.Both.{AreCrossIndexes, with_common}
use Rattle.dwz_check_index.specs.declared.both.CrossIndexes.{CrossIndexes}
use Rattle.dwz_check_rows.specs.declared.columns.Columns.{Columns}
use Rattle.dwz_check_rows.specs.UnitRows.{AreColumns, IsNumbering, new_rows, old_rows}
use Rattle.dwz_check_sides.specs.Says.{FileSays}
use Rattle.dwz_graph.specs.declared.file.File.{File}
use Rattle.dwz_graph.specs.Surroundings.{behind_own}

-- ---- files that were read

-- the common file says these; none, where there is no such file
abbrev pub CommonSays : Option File → List (DwUnit ℕ) → Type 0
CommonSays None units = units ≡ []
CommonSays (Some f) units = FileSays f None units

-- the units of one of them with the common ones, where the places of these are told from its own
abbrev pub beside : List (DwUnit ℕ) → List (DwUnit ℕ) → WithCommon ℕ
beside own common = with_common own (map (unit_map behind_own) common)

-- Two files say these units, and their common file those, as reading gives them: no place twice, no reference to nothing, and all units of
-- the common file partial. And the indexes are theirs.
pub record TwoSay (old new : File) (common : Option File) (indexes : CrossIndexes) (a b c : List (DwUnit ℕ)) : Type 0 where
  pub old_says : FileSays old common a
  pub new_says : FileSays new common b
  pub common_says : CommonSays common c
  pub old_read : IsWellRead (beside a c)
  pub new_read : IsWellRead (beside b c)
  pub indexed : AreCrossIndexes a b c indexes

-- they say some units
abbrev pub TwoSaySome : File → File → Option File → CrossIndexes → Type 0
TwoSaySome old new common indexes =
    (a : List (DwUnit ℕ)) × (b : List (DwUnit ℕ)) × (c : List (DwUnit ℕ)) × TwoSay old new common indexes a b c

-- ---- columns

-- The columns fit, and whatever classes nodes have, they say rows of the units of both files that aren't partial: numbers of name lists
-- stand for these lists.
pub record ShowRows {P Q : Type 0} (v : WithCommon P) (w : WithCommon Q) (name : P → CrossName) (other : Q → CrossName)
    (c : Columns) : Type 0 where
  pub fit : AreColumns (node_count v w) c
  pub lists : ℕ → List (List ℕ)
  pub numbering : IsNumbering c.names lists
  pub old : (classes : List ℕ) → EachTwo (IsCrossRow (old_side v w name) classes) (whole_units v.own) (old_rows lists classes c)
  pub new : (classes : List ℕ) → EachTwo (IsCrossRow (new_side v w other) classes) (whole_units w.own) (new_rows lists classes c)

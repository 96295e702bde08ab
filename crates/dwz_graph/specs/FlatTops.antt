-- The rows of a top, and of the spaces that it stands in.
use Rattle.std.specs.Prelude.{◌≡◌, ℕ, suc, ◌+◌, ◌<◌, List, [], ◌∷◌, ◌++◌, length, Ok, Some, drop, slice_get}
use Rattle.dwz_def_reading.specs.Entries.{RawEntry}
use Rattle.dwz_def_reading.specs.Trees.{End, Entry, Forest, Position}
use Rattle.dwz_def_reading.specs.Units.{RawUnit}
use Rattle.dwz_def_reading.specs.Documents.{DwUnit, Entries, Node, entries_map, language, node_map}
use Rattle.dwz_def_reading.specs.Meanings.{Around, MeaningContext, scope_of}
use Rattle.dwz_def_reading.specs.Meant.{entries_meaning, node_meaning, unit_meaning}
use Rattle.dwz_def_tops.specs.Spaces.{space_text}
use Rattle.dwz_def_tops.specs.Spots.{EntryName, SpaceName, Top, name_of}
use Rattle.dwz_unit.specs.Rows.{EntryRow, rows_below, rows_of}

-- the row with number j is that of a space with that name and depth, and the row with number i is below it
pub record IsSpaceRow (s : MeaningContext ℕ) (rows : List EntryRow) (depth i : ℕ) (x : SpaceName) (j : ℕ) : Type 0 where
  pub row : EntryRow
  pub d : Node ℕ
  pub text : List ℕ
  pub found : slice_get rows j ≡ Some row
  pub means : node_meaning s row.entry ≡ Ok d
  pub is_space : space_text d ≡ Some text
  pub name : x ≡ name_of text d
  pub deep : row.depth ≡ depth
  pub before : j < i
  pub over : i < row.end

-- these are the rows of spaces, each in the one before it, and the row with number i is below them
abbrev pub AreSpaceRows : MeaningContext ℕ → List EntryRow → ℕ → ℕ → List SpaceName → List ℕ → Type 0
AreSpaceRows s rows depth i [] [] = Unit {0}
AreSpaceRows s rows depth i (x ∷ names) (j ∷ numbers) = IsSpaceRow s rows depth i x j × AreSpaceRows s rows (suc depth) i names numbers
AreSpaceRows s rows depth i _ _ = ⊥

-- Among these rows stand those of a top, one behind the other, and those of the spaces that it stands in, the outermost of which has that
-- depth. What these mean is the top.
pub record HasTop (s : MeaningContext ℕ) (name : ℕ
    → EntryName) (rows : List EntryRow) (unit depth : ℕ) (spaces : List SpaceName) (t : Top) : Type 0 where
  pub e : RawEntry
  pub c : Forest RawEntry
  pub d : Node ℕ
  pub g : Entries ℕ
  pub p : Position
  pub after : List EntryRow
  pub above : List ℕ
  pub stand : drop p.before rows ≡ rows_below (Entry e c End) unit p ++ after
  pub means : entries_meaning s (Entry e c End) ≡ Ok (Entry d g End)
  pub node : t.node ≡ node_map name d
  pub below : t.below ≡ entries_map name g
  pub spaces_are : AreSpaceRows s rows depth p.before spaces above
  pub deep : p.depth ≡ depth + length above

-- Of the units of the file with a number, the first of which has that number among those of all files, the one that a top is of, and the
-- top's rows.
pub record HasTopOfFile (around : Around ℕ) (name : ℕ → EntryName) (raw : List RawUnit) (units : List (DwUnit ℕ)) (file first : ℕ)
    (t : Top) : Type 0 where
  pub n : ℕ
  pub u : RawUnit
  pub v : DwUnit ℕ
  pub is_unit : slice_get raw n ≡ Some u
  pub is_meant : slice_get units n ≡ Some v
  pub means : unit_meaning around u ≡ Ok v
  pub of_file : t.file ≡ file
  pub number : t.unit ≡ first + n
  pub of_language : t.language ≡ language v
  pub top : HasTop (scope_of around u) name (rows_of raw) n 2 t.spaces t

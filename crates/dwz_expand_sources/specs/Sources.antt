-- The plan of a file without its partial units (DWARF 5, 3.2.5): which entries, of the file itself or of the common file beside which it was
-- read, are the sources of each new unit. Numbers stand for places, and those of the common file come behind the file's own.
use Rattle.std.specs.Prelude.{◌≡◌, ℕ, ◌<◌, ◌≤◌, List, length, Some, slice_get, slice_range}
use Rattle.std.specs.List.{flat_map}
use Rattle.dwz_def_reading.specs.Documents.{DwUnit}
use Rattle.dwz_def_reading.specs.Lists.{Each}
use Rattle.dwz_def_cross.specs.CrossSame.{EachTwo}
use Rattle.dwz_def_cross.specs.Tops.{WithCommon, units_with_common, whole_units}
use Rattle.dwz_def_expand.specs.Source.{source_unit}
use Rattle.dwz_check_index.specs.Index.{ListedEntry, listed, listed_units}
use Rattle.dwz_imports.specs.Imports.{same}
use Rattle.dwz_expand_sources.specs.declared.sources.NewUnit.{NewUnit}
use Rattle.dwz_expand_sources.specs.declared.sources.SourceRange.{SourceRange}

-- all entries of a file and of the common file in order: the number of an entry is its index
abbrev pub all_entries : WithCommon ℕ → List (ListedEntry ℕ)
all_entries w = listed_units (units_with_common w)

-- the new units, and the ranges of their sources
pub record Sources : Type 0 where
  pub units : List NewUnit
  pub ranges : List SourceRange

-- the entries of a range
abbrev pub in_range : {X : Type 0} → List X → SourceRange → List X
in_range entries r = slice_range entries r.first r.end

-- those of a new unit
abbrev pub ranges_of : List SourceRange → NewUnit → List SourceRange
ranges_of ranges x = slice_range ranges x.first x.end

-- A new unit is what a unit becomes: it has the number of that one, and that of its root; and what stands below its own root are the entries
-- of its ranges, one range behind the other.
pub record IsNewUnit (w : WithCommon ℕ) (ranges : List SourceRange) (x : NewUnit) (u : DwUnit ℕ) : Type 0 where
  pub unit : slice_get w.own x.unit ≡ Some u
  pub root : slice_get (all_entries w) x.root ≡ Some (u.root, u.below)
  pub rises : x.first ≤ x.end
  pub within : x.end ≤ length ranges
  pub below : flat_map (in_range (all_entries w)) (ranges_of ranges x) ≡ listed (source_unit same (units_with_common w) u).below

-- entries are there, and at least one
pub record IsRange (count : ℕ) (r : SourceRange) : Type 0 where
  pub some : r.first < r.end
  pub within : r.end ≤ count

-- each new unit is that of a unit that isn't partial, in order
pub record AreSources (w : WithCommon ℕ) (s : Sources) : Type 0 where
  pub units : EachTwo (IsNewUnit w s.ranges) s.units (whole_units w.own)
  pub ranges : Each (IsRange (length (all_entries w))) s.ranges

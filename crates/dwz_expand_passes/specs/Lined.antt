-- The entries of a file and of its common file with their depths, and those of a new unit by the numbers of their sources.
use Rattle.std.specs.Prelude.{◌≡◌, ℕ, List, [], ◌∷◌, ◌++◌, Some, slice_get}
use Rattle.std.specs.List.{flat_map}
use Rattle.dwz_def_reading.specs.Documents.{DwUnit}
use Rattle.dwz_def_cross.specs.CrossSame.{EachTwo}
use Rattle.dwz_def_cross.specs.Tops.{WithCommon, units_with_common, whole_units}
use Rattle.dwz_def_expand.specs.Source.{source_unit}
use Rattle.dwz_def_tops.specs.Lists.{NoneTwice}
use Rattle.dwz_def_tops.specs.Shown.{units_keys}
use Rattle.dwz_expand_sources.specs.Imports.{same}
use Rattle.dwz_expand_layout.specs.Lines.{Line, line, lines, unit_lines}
use Rattle.dwz_expand_sources.specs.declared.sources.NewUnit.{NewUnit}
use Rattle.dwz_expand_sources.specs.declared.sources.SourceRange.{SourceRange}
use Rattle.dwz_expand_sources.specs.Sources.{AreSources, Sources, in_range, ranges_of}

-- the entries of units one after the other, each with its depth in its unit
unfoldable pub units_lines : {P : Type 0} → List (DwUnit P) → List (Line P)
units_lines [] = []
units_lines (u ∷ units) = unit_lines u ++ units_lines units

-- all entries of a file and of the common file in order: the number of an entry is its index
abbrev pub all_lines : WithCommon ℕ → List (Line ℕ)
all_lines w = units_lines (units_with_common w)

-- The root of a new unit, and the entries of its ranges, are those of the unit in order, as deep as they stand there.
pub record StandsAs (w : WithCommon ℕ) (ranges : List SourceRange) (x : NewUnit) (u : DwUnit ℕ) : Type 0 where
  pub root : slice_get (all_lines w) x.root ≡ Some (line 1 u.root)
  pub below : flat_map (in_range (all_lines w)) (ranges_of ranges x) ≡ lines 2 (source_unit same (units_with_common w) u).below

-- where no place stands twice, so stands each new unit
abbrev pub LinesLaw : Type 0
LinesLaw =
    (w : WithCommon ℕ) (s : Sources) → AreSources w s → NoneTwice (units_keys (units_with_common w))
    → EachTwo (StandsAs w s.ranges) s.units (whole_units w.own)

-- The numbers of copies: the entries of all new units are numbered from 0, unit by unit, and in each from its root on, in preorder.
use Rattle.std.specs.Prelude.{ℕ, ◌+◌, ◌-◌, ◌≤◌, List, [], ◌∷◌, ◌++◌, length}
use Rattle.dwz_expand_sources.specs.declared.sources.NewUnit.{NewUnit}
use Rattle.dwz_expand_sources.specs.declared.sources.SourceRange.{SourceRange}
use Rattle.dwz_expand_sources.specs.Sources.{ranges_of}

-- how many entries ranges have
abbrev pub range_count : SourceRange → ℕ
range_count r = r.end - r.first

unfoldable pub ranges_count : List SourceRange → ℕ
ranges_count [] = 0
ranges_count (r ∷ ranges) = range_count r + ranges_count ranges

-- how many entries a new unit has, with its root
abbrev pub unit_count : List SourceRange → NewUnit → ℕ
unit_count ranges x = 1 + ranges_count (ranges_of ranges x)

unfoldable pub copy_count : List SourceRange → List NewUnit → ℕ
copy_count ranges [] = 0
copy_count ranges (x ∷ units) = unit_count ranges x + copy_count ranges units

-- the number of the first copy of each range, where that of the first range is given
unfoldable pub numbers_from : ℕ → List SourceRange → List ℕ
numbers_from at [] = []
numbers_from at (r ∷ ranges) = at ∷ numbers_from (at + range_count r) ranges

-- the number of the root of each new unit, where that of the first is given
unfoldable pub root_numbers : List SourceRange → ℕ → List NewUnit → List ℕ
root_numbers ranges at [] = []
root_numbers ranges at (x ∷ units) = at ∷ root_numbers ranges (at + unit_count ranges x) units

-- and of the first copy of each of its ranges
unfoldable pub range_numbers : List SourceRange → ℕ → List NewUnit → List ℕ
range_numbers ranges at [] = []
range_numbers ranges at (x ∷ units) = numbers_from (at + 1) (ranges_of ranges x) ++ range_numbers ranges (at + unit_count ranges x) units

-- the ranges of a new unit are there
pub record HasRanges (ranges : List SourceRange) (x : NewUnit) : Type 0 where
  pub rises : x.first ≤ x.end
  pub within : x.end ≤ length ranges

-- the numbers of roots, and of the first copies of ranges
pub record CopyNumbers : Type 0 where
  pub roots : List ℕ
  pub ranges : List ℕ

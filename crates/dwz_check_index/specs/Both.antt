-- What the indexes of two files and of their common one show.
use Rattle.std.specs.Prelude.{◌≡◌, ℕ, ◌+◌, List, [], length, Option, Some, None}
use Rattle.dwz_def_reading.specs.Documents.{DwUnit}
use Rattle.dwz_def_reading.specs.Units.{RawUnit}
use Rattle.dwz_def_cross.specs.Tops.{WithCommon}
use Rattle.dwz_def_check.specs.CrossNames.{cross_tops}
use Rattle.dwz_def_check.specs.CrossNodes.{lone_entries, tops_before, tops_together}
use Rattle.dwz_unit.specs.Rows.{Source, units_of}
use Rattle.dwz_check_index.specs.declared.both.CrossIndexes.{CrossIndexes}
use Rattle.dwz_check_index.specs.declared.index.CrossStarts.{CrossStarts}
use Rattle.dwz_check_index.specs.Index.{CrossIndex, IsCrossIndex}

-- the numbers of a file whose first top has that one; its roots and spaces are counted from 0
abbrev pub from_top : ℕ → CrossStarts
from_top top = record { top = top; lone = 0 }

-- the units of the common file, as they are stored, and how many tops it has; none, where there is no such file
abbrev pub raw_beside : Option Source → List RawUnit
raw_beside None = []
raw_beside (Some units) = units_of units

abbrev pub tops_beside : Option CrossIndex → ℕ
tops_beside None = 0
tops_beside (Some x) = length x.tops

-- the index of the common file, the first top of which has that number
abbrev pub IsBeside : ℕ → List (DwUnit ℕ) → Option CrossIndex → Type 0
IsBeside top said None = said ≡ []
IsBeside top said (Some x) = IsCrossIndex (from_top top) said x

abbrev pub with_common : List (DwUnit ℕ) → List (DwUnit ℕ) → WithCommon ℕ
with_common own common = record { own = own; common = common }

-- the indexes of an old file, of a new one and of their common one have the numbers of `old_side` and `new_side`
pub record AreCrossIndexes (old new common : List (DwUnit ℕ)) (x : CrossIndexes) : Type 0 where
  pub old_is : IsCrossIndex (from_top 0) old x.old
  pub new_is : IsCrossIndex (from_top (length (cross_tops old))) new x.new
  pub common_is : IsBeside (tops_before (with_common old common) (with_common new common)) common x.common
  pub old_lone : x.old_lone ≡ tops_together (with_common old common) (with_common new common)
  pub new_lone : x.new_lone ≡ tops_together (with_common old common) (with_common new common) + length (lone_entries old)

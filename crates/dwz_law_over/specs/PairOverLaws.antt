-- What is made of a file over a finished common file means what the file meant.
use Rattle.std.specs.Prelude.{◌≢◌, ℕ, List, ◌++◌, map}
use Rattle.dwz_def_reading.specs.Documents.{Doc, DwUnit, unit_map}
use Rattle.dwz_def_reading.specs.Lists.{Each, Nth}
use Rattle.dwz_def_reading.specs.Places.{Place, at_file}
use Rattle.dwz_def_tops.specs.Seen.{Closed}
use Rattle.dwz_def_tops.specs.Shown.{OnePlace, UnitsShown}
use Rattle.dwz_def_tops.specs.Spots.{EntryName, file_numbers, units_of}
use Rattle.dwz_def_images.specs.Moves.{Move}
use Rattle.dwz_def_images.specs.Units.{common_units, out_units}
use Rattle.dwz_def_taken.specs.declared.fixed.Fixed.{Fixed}
use Rattle.dwz_def_taken.specs.Beside.{reused_of}
use Rattle.dwz_def_taken.specs.Laws.{ArePlacedOver}
use Rattle.dwz_def_taken.specs.Over.{move_over}
use Rattle.dwz_def_taken.specs.Takes.{IsFixed}
use Rattle.dwz_def_cross.specs.CrossSame.{CrossSame}
use Rattle.dwz_law_cross.specs.PairLaws.{alone, with_common}

-- what moves of these files over that common file
abbrev pub over_move : List (Doc ℕ) → Doc ℕ → Fixed → Move
over_move docs common fixed = move_over (reused_of docs common) fixed (file_numbers 0 docs)

-- The units of a file after, at places, and those of the common file: each name at one place, with no place of two names. Each reference names
-- one of them.
pub record AreAtOver (docs : List (Doc ℕ)) (common : Doc ℕ) (fixed : Fixed) (file : ℕ) (g : EntryName → Place)
    (own shared : List (DwUnit Place)) : Type 0 where
  pub own_shown : UnitsShown g (out_units (over_move docs common fixed) (units_of docs) file) own
  pub common_shown : UnitsShown g (common_units (over_move docs common fixed)) shared
  pub one : OnePlace g (out_units (over_move docs common fixed) (units_of docs) file ++ common_units (over_move docs common fixed))
  pub closed : Closed (out_units (over_move docs common fixed) (units_of docs) file ++ common_units (over_move docs common fixed))

-- the two files mean the same
abbrev pub SameMeaningOverLaw : Type 0
SameMeaningOverLaw =
    (docs : List (Doc ℕ)) (common : Doc ℕ) (fixed : Fixed) → ArePlacedOver docs common → IsFixed (reused_of docs common) fixed
    → (file : ℕ) (doc : Doc ℕ) → Nth 0 docs file doc → (g : EntryName → Place) (own shared : List (DwUnit Place))
    → AreAtOver docs common fixed file g own shared → CrossSame (alone doc) (with_common own shared)

-- so they do where the old file has a number of its own, and is read beside the common file too
abbrev pub MeetOverLaw : Type 0
MeetOverLaw =
    (docs : List (Doc ℕ)) (common : Doc ℕ) (fixed : Fixed) → ArePlacedOver docs common → IsFixed (reused_of docs common) fixed
    → (file : ℕ) (doc : Doc ℕ) → Nth 0 docs file doc → (g : EntryName → Place) (own shared : List (DwUnit Place))
    → AreAtOver docs common fixed file g own shared → (old : ℕ) → Each (λ u. u.root.at.file ≢ old) shared
    → CrossSame (with_common (map (unit_map (at_file old)) doc.units) shared) (with_common own shared)

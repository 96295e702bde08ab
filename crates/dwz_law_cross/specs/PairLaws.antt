-- What is made of a file means what the file meant.
use Rattle.std.specs.Prelude.{ℕ, List, [], ◌++◌}
use Rattle.dwz_def_reading.specs.Documents.{Doc, DwUnit}
use Rattle.dwz_def_reading.specs.Lists.{Each, NoneTwice, Nth}
use Rattle.dwz_def_tops.specs.Seen.{Closed}
use Rattle.dwz_def_tops.specs.Shown.{OnePlace, UnitsShown, units_keys}
use Rattle.dwz_def_tops.specs.Alike.{IsAlike, TopScope}
use Rattle.dwz_def_tops.specs.Spots.{EntryName, file_numbers, units_of}
use Rattle.dwz_def_images.specs.Homes.{IsChoice, Rule}
use Rattle.dwz_def_images.specs.Moves.{Move, image_in, plan}
use Rattle.dwz_def_images.specs.After.{ArePlaced}
use Rattle.dwz_def_tops.specs.UnitNames.{name_of_place}
use Rattle.dwz_def_reading.specs.Places.{Place, at_file}
use Rattle.dwz_def_images.specs.Units.{common_units, out_units}
use Rattle.dwz_def_cross.specs.CrossLaws.{IsPairing}
use Rattle.dwz_def_cross.specs.CrossSame.{CrossSame}
use Rattle.dwz_def_cross.specs.Tops.{WithCommon}

abbrev pub plan_of : Rule → List (Doc ℕ) → Move
plan_of rule docs = plan rule (units_of docs) (file_numbers 0 docs)

-- the units of a file by itself
abbrev pub alone : Doc ℕ → WithCommon ℕ
alone doc = record { own = doc.units; common = [] }

abbrev pub with_common : List (DwUnit Place) → List (DwUnit Place) → WithCommon Place
with_common own common = record { own = own; common = common }

-- The units of a file after, at places, and those of the common file: at one place each, with no place of two entries. Each reference names
-- one of them.
pub record AreAt (m : Move) (docs : List (Doc ℕ)) (file : ℕ) (g : EntryName → Place) (own common : List (DwUnit Place)) : Type 0 where
  pub own_shown : UnitsShown g (out_units m (units_of docs) file) own
  pub common_shown : UnitsShown g (common_units m) common
  pub one : OnePlace g (out_units m (units_of docs) file ++ common_units m)
  pub closed : Closed (out_units m (units_of docs) file ++ common_units m)
  pub apart : NoneTwice (units_keys (own ++ common))

abbrev pub PairLaw : Type 0
PairLaw =
    (scope : TopScope) (docs : List (Doc ℕ)) (rule : Rule) → Each (λ doc. ArePlaced doc.units) docs → IsAlike scope (units_of docs) rule.alike
    → IsChoice (units_of docs) rule → (file : ℕ) (doc : Doc ℕ) → Nth 0 docs file doc → (g : EntryName → Place) (own common : List (DwUnit Place))
    → AreAt (plan_of rule docs) docs file g own common
    → IsPairing (λ p. g (image_in (plan_of rule docs) (name_of_place docs (at_file file p)))) (alone doc) (with_common own common)

-- so the two files mean the same
abbrev pub SameMeaningLaw : Type 0
SameMeaningLaw =
    (scope : TopScope) (docs : List (Doc ℕ)) (rule : Rule) → Each (λ doc. ArePlaced doc.units) docs → IsAlike scope (units_of docs) rule.alike
    → IsChoice (units_of docs) rule → (file : ℕ) (doc : Doc ℕ) → Nth 0 docs file doc → (g : EntryName → Place) (own common : List (DwUnit Place))
    → AreAt (plan_of rule docs) docs file g own common → CrossSame (alone doc) (with_common own common)

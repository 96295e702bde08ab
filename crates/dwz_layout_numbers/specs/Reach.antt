-- In which unit, and in which file, a name stands, by the numbers of units.
use Rattle.std.specs.Prelude.{◌≡◌, ◌⊎◌, ℕ, ◌==◌, ◌≤◌, Bool, List, ◌++◌, length, nat_lt, not, Some, slice_get}
use Rattle.dwz_def_reading.specs.Lists.{In}
use Rattle.dwz_def_reading.specs.Documents.{Doc, DwUnit}
use Rattle.dwz_def_tops.specs.Lists.{NoneTwice}
use Rattle.dwz_def_tops.specs.Shown.{unit_keys, units_keys}
use Rattle.dwz_def_tops.specs.Spots.{EntryName, FileUnit, file_numbers, same_spot}
use Rattle.dwz_def_images.specs.Moves.{Move}
use Rattle.dwz_def_images.specs.Units.{all_units}
use Rattle.dwz_def_encoding.specs.Placing.{has_key}
use Rattle.dwz_layout_numbers.specs.Owners.{StandsIn, all_written}

-- where no name stands twice in all units after, none does in those that are written
abbrev pub OnceLaw : Type 0
OnceLaw =
    (m : Move) (units : List (FileUnit EntryName)) (docs : List (Doc ℕ)) (written : List Bool)
    → NoneTwice (units_keys (all_units m units (file_numbers 0 docs))) → length written ≤ length docs
    → NoneTwice (units_keys (all_written m units written))

-- so a name that stands in the unit with the number `owner` stands in another one exactly where that has this number too
abbrev pub OwnLaw : Type 0
OwnLaw =
    (all : List (DwUnit EntryName)) → NoneTwice (units_keys all) → (s : EntryName) (owner : ℕ) → StandsIn all s owner
    → (here : ℕ) (u : DwUnit EntryName) → slice_get all here ≡ Some u
    → has_key same_spot s (unit_keys u) ≡ (owner == here)

-- it stands in the common file, whose units come first, exactly where the number is one of theirs
abbrev pub CommonLaw : Type 0
CommonLaw =
    (common others : List (DwUnit EntryName)) → NoneTwice (units_keys (common ++ others)) → (s : EntryName) (owner : ℕ)
    → StandsIn (common ++ others) s owner
    → has_key same_spot s (units_keys common) ≡ nat_lt owner (length common)

-- and where it stands there or in another file, in that file exactly where it is none of theirs
abbrev pub FileLaw : Type 0
FileLaw =
    (common before own after : List (DwUnit EntryName)) → NoneTwice (units_keys (common ++ (before ++ (own ++ after))))
    → (s : EntryName) (owner : ℕ) → StandsIn (common ++ (before ++ (own ++ after))) s owner
    → In s (units_keys common) ⊎ In s (units_keys own) → has_key same_spot s (units_keys own) ≡ not (nat_lt owner (length common))

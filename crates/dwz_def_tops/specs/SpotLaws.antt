-- Inner: laws on the names of units and entries, and on the numbers of tops.
use Rattle.std.specs.Prelude.{◌≡◌, ℕ, List, Some, slice_get}
use Rattle.dwz_def_reading.specs.Documents.{DwUnit}
use Rattle.dwz_def_reading.specs.Lists.{In}
use Rattle.dwz_def_tops.specs.Seen.{IsPartial}
use Rattle.dwz_def_tops.specs.Shown.{units_keys}
use Rattle.dwz_def_tops.specs.Spots.{EntryName, FileUnit, Top, spot_in, spots_from, tops_of}

-- Each place of units, of their roots and of their entries gets one of the names that the units give, at this place. So none of these
-- gets `no_name` for want of one.
abbrev pub FoundLaw : Type 0
FoundLaw =
    (unit top : ℕ) (units : List (DwUnit ℕ)) → ((u : DwUnit ℕ) → In u units → IsPartial u.kind → ⊥) → (place : ℕ)
    → In place (units_keys units)
    → In (place, spot_in (spots_from unit top units) place) (spots_from unit top units)

-- the number of a top says where it stands among the tops of all units
abbrev pub NumbersLaw : Type 0
NumbersLaw = (units : List (FileUnit EntryName)) (t : Top) → In t (tops_of units) → slice_get (tops_of units) t.number ≡ Some t

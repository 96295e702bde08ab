-- Sets as the definitions see them, and what is found at a place.
use Rattle.std.specs.Prelude.{◌≡◌, ◌<◌, ◌≤◌, ℕ, Bool, true, false, List, length, map, Option, Some, None, Ok, Err}
use Rattle.dwz_bytes.specs.Input.{Input, input}
use Rattle.dwz_def_reading.specs.Ranges.{RangeSet, bad_ranges, set_at}
use Rattle.dwz_aranges.specs.declared.sets.Set.{Set}

abbrev pub set_view : Set → RangeSet
set_view s = record { at = s.at; unit = s.unit }

abbrev pub set_views : List Set → List RangeSet
set_views sets = map set_view sets

-- whichever numbers are those of units
abbrev pub any_unit : ℕ → Bool
any_unit n = true

-- a set, and the place behind it
pub record IsSet (section : List ℕ) (at : ℕ) (set : Set) (behind : ℕ) : Type 0 where
  pub read : set_at any_unit (input section at) ≡ Ok (set_view set, input section behind)
  pub some : at < behind
  pub within : behind ≤ length section

abbrev pub Finds : List ℕ → ℕ → Option (Set × ℕ) → Type 0
Finds section at None = set_at any_unit (input section at) ≡ Err (bad_ranges at)
Finds section at (Some x) = IsSet section at x.0 x.1

-- a set that stands for any unit, and whose unit is known
abbrev pub Known : Type 0
Known = (is_unit : ℕ → Bool) (i j : Input) (set : RangeSet) → set_at any_unit i ≡ Ok (set, j) → is_unit set.unit ≡ true
    → set_at is_unit i ≡ Ok (set, j)

-- one whose unit isn't
abbrev pub Unknown : Type 0
Unknown = (is_unit : ℕ → Bool) (i j : Input) (set : RangeSet) → set_at any_unit i ≡ Ok (set, j) → is_unit set.unit ≡ false
    → set_at is_unit i ≡ Err (bad_ranges i.at)

-- none that stands, whichever unit
abbrev pub NoSet : Type 0
NoSet = (is_unit : ℕ → Bool) (i : Input) → set_at any_unit i ≡ Err (bad_ranges i.at) → set_at is_unit i ≡ Err (bad_ranges i.at)

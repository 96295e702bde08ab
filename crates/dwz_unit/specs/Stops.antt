-- Stops: the values of an entry that are looked at. The others are passed over by what their forms say of their lengths.
use Rattle.std.specs.Prelude.{ℕ, ◌+◌, ◌&&◌, ◌||◌, ◌==◌, not, Bool, true, false, List, [], ◌∷◌, if◌then◌else◌}
use Rattle.std.specs.Option.{is_some, option_map_or}
use Rattle.dwz_def_reading.specs.Classes.{Class, OfAddress, OfConstant, OfFlag, OfIndex, OfSignature, class_of, names_file}
use Rattle.dwz_forms.specs.FixedSizes.{fixed_size}
use Rattle.dwz_model.specs.declared.place.Pair.{Pair}
use Rattle.dwz_unit.specs.declared.stops.Stop.{Stop}

-- a value of that class, of an attribute of that name, names nothing that stands elsewhere: no entry, text, list, or file
abbrev pub is_plain : Class → ℕ → Bool
is_plain OfAddress name = true
is_plain OfFlag name = true
is_plain OfSignature name = true
is_plain OfIndex name = true
is_plain OfConstant name = not (names_file name)
is_plain _ name = false

-- a value that is passed over: its form tells its length, and it is plain, or it is that of DW_AT_sibling (1)
abbrev pub is_passed : Pair → Bool
is_passed pair = is_some (fixed_size pair.form) && ((pair.name == 0x01) || is_plain (class_of pair.form) pair.name)

-- how many bytes such a value has
abbrev pub passed_size : Pair → ℕ
passed_size pair = option_map_or (λ n. n) (fixed_size pair.form) 0

-- the stops among values, of which the first has that number, and stands so many bytes behind the stop before it
unfoldable pub stops_from : List Pair → ℕ → ℕ → List Stop
stops_from [] number skip = []
stops_from (pair ∷ pairs) number skip =
    if is_passed pair then stops_from pairs (number + 1) (skip + passed_size pair)
    else record { skip = skip; number = number } ∷ stops_from pairs (number + 1) 0

-- those of an entry
abbrev pub stops_of : List Pair → List Stop
stops_of pairs = stops_from pairs 0 0

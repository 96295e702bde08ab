-- Inner: The entries that describe the types of type units.
use Rattle.std.specs.Prelude.{◌≡◌, ℕ, ◌+◌, true, List, Option, Some, None}
use Rattle.dwz_codes.specs.Rows.{has}
use Rattle.dwz_def_reading.specs.Meanings.{places_of}
use Rattle.dwz_def_reading.specs.Units.{RawUnit}
use Rattle.dwz_graph.specs.Places.{place_at}
use Rattle.dwz_unit.specs.Rows.{type_offset_of}

-- it is the one at that offset in the unit, where one of its entries is there
abbrev pub IsMain : List RawUnit → RawUnit → Option ℕ → Type 0
IsMain raw u (Some main) = place_at raw main ≡ u.at + type_offset_of u.kind
IsMain raw u None = ¬ (has (u.at + type_offset_of u.kind) (places_of u) ≡ true)

-- Where entries stand, by their numbers.
use Rattle.std.specs.Prelude.{ℕ, List, map, slice_index}
use Rattle.dwz_def_reading.specs.Units.{RawUnit}
use Rattle.dwz_unit.specs.Rows.{rows_of}

-- the places of all entries, by their numbers
abbrev pub places : List RawUnit → List ℕ
places raw = map (λ row. row.entry.at) (rows_of raw)

abbrev pub place_at : List RawUnit → ℕ → ℕ
place_at raw i = slice_index (places raw) i

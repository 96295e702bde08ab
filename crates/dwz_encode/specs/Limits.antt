-- Which section of a file would be too large.
use Rattle.std.specs.Prelude.{ℕ, Option, Some, None, nat_lt, if◌then◌else◌}
use Rattle.dwz_def_reading.specs.ElfLayout.{too_large}

-- the least of the two, by how many bytes they have: 1 is .debug_info, 2 .debug_abbrev
abbrev pub too_large_in : (info abbrevs : ℕ) → Option ℕ
too_large_in info abbrevs = if nat_lt info too_large then (if nat_lt abbrevs too_large then None else Some 2) else Some 1

-- One use after the other, in ascending order. This is of the inside alone.
use Rattle.std.specs.Prelude.{ℕ, List, nat_le, if◌then◌else◌}
use Rattle.dwz_def_reading.specs.Pruning.{range_end}

-- where the ranges end, of which that of a use is the last
abbrev pub end_behind : List ℕ → ℕ → ℕ → ℕ
end_behind section used end = if nat_le end used then range_end section used else end

-- The move of a plan of files.
use Rattle.std.specs.Prelude.{ℕ, List}
use Rattle.dwz_def_reading.specs.Documents.{Doc}
use Rattle.dwz_def_tops.specs.Spots.{file_numbers, units_of}
use Rattle.dwz_def_plan.specs.Homes.{Rule}
use Rattle.dwz_def_plan.specs.Moves.{Move, plan}

-- the move of a plan
abbrev pub move_of : Rule → List (Doc ℕ) → Move
move_of rule docs = plan rule (units_of docs) (file_numbers 0 docs)

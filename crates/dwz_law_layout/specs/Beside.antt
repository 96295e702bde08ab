-- What stands beside files: nothing, or a finished common file with what is taken of it.
use Rattle.std.specs.Prelude.{◌≡◌, ℕ, List, [], ◌∷◌, ◌++◌, map}
use Rattle.dwz_def_reading.specs.Documents.{Doc}
use Rattle.dwz_def_tops.specs.Spots.{file_numbers, units_of}
use Rattle.dwz_def_images.specs.Homes.{Home, Local, Rule}
use Rattle.dwz_def_images.specs.Moves.{Move}
use Rattle.dwz_def_readback.specs.Files.{CommonFile, Finished, Made, Stands}
use Rattle.dwz_def_taken.specs.declared.fixed.Fixed.{Fixed}
use Rattle.dwz_def_taken.specs.Beside.{compile_doc, reused_of}
use Rattle.dwz_def_taken.specs.Over.{plan_over, standing_of}
use Rattle.dwz_unit.specs.Rows.{rows_of}
use Rattle.dwz_plan.specs.MoveOf.{move_of}

-- a common file that stands: what it says, what is taken of it, and where its names stand
pub record Standing : Type 0 where
  pub doc : Doc ℕ
  pub fixed : Fixed
  pub file : Finished

pub data Beside : Type 0 where
  Alone : Beside
  Over : Standing → Beside

-- all documents whose entries have numbers: those of the files, and behind them that of the common file, read as compile units
abbrev pub every_by : Beside → List (Doc ℕ) → List (Doc ℕ)
every_by Alone docs = docs
every_by (Over s) docs = docs ++ compile_doc s.doc ∷ []

-- tops move as the rule says; what is taken stands in the common file
abbrev pub move_by : Beside → Rule → List (Doc ℕ) → Move
move_by Alone rule docs = move_of rule docs
move_by (Over s) rule docs = plan_over (standing_of (reused_of docs s.doc) s.fixed) rule (units_of docs) (file_numbers 0 docs)

-- the common file is made of what moves there, or stands already
abbrev pub common_by : Beside → CommonFile
common_by Alone = Made
common_by (Over s) = Stands s.file

-- the units of its entries, by their numbers
abbrev pub owners_by : Beside → List ℕ
owners_by Alone = []
owners_by (Over s) = map (λ r. r.unit) (rows_of s.file.raw)

-- a partial unit is made, where it doesn't stand in the common file already
abbrev pub IsMadeAt : Beside → Home → Type 0
IsMadeAt Alone home = Unit {0}
IsMadeAt (Over s) home = (file : ℕ) × (home ≡ Local file)

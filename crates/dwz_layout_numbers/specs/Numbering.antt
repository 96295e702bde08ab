-- How units that are written are numbered.
use Rattle.std.specs.Prelude.{◌≡◌, ℕ, suc, Bool, true, false, List, [], ◌∷◌, ◌++◌, length, map, replicate, ◌==◌, if◌then◌else◌}
use Rattle.std.specs.List.{filter, range_with_len}
use Rattle.dwz_def_reading.specs.Documents.{Doc}
use Rattle.dwz_def_tops.specs.Spots.{units_of}
use Rattle.dwz_def_images.specs.Homes.{Common, Home, Local, same_home}
use Rattle.dwz_def_images.specs.Moves.{Move}
use Rattle.dwz_def_images.specs.Plan.{PartialUnit}
use Rattle.dwz_plan.specs.declared.plan.Partial.{Partial}
use Rattle.dwz_plan.specs.Shows.{shown_part}
use Rattle.dwz_def_images.specs.Units.{changes}
use Rattle.dwz_layout_numbers.specs.Owners.{IsFileWritten}

-- how many at the front are of the file
unfoldable pub leading : ℕ → List Partial → ℕ
leading file [] = 0
leading file (part ∷ parts) = if part.file == file then suc (leading file parts) else 0

-- the numbers of so many units of a file from one on, where it is written
abbrev pub numbers_of : ℕ → ℕ → Bool → List ℕ
numbers_of first count true = range_with_len first count
numbers_of first count false = replicate count 0

-- ---- the order of partial units

abbrev pub parts_at : Move → Home → List PartialUnit
parts_at m h = filter (λ part. same_home part.home h) m.parts

unfoldable pub parts_of_files : Move → List ℕ → List PartialUnit
parts_of_files m [] = []
parts_of_files m (file ∷ files) = parts_at m (Local file) ++ parts_of_files m files

-- those of the common file come first, and then those of each of so many files
abbrev pub AreInOrder : Move → ℕ → Type 0
AreInOrder m files = m.parts ≡ parts_at m Common ++ parts_of_files m (range_with_len 0 files)

-- ---- what is numbered

-- These are the partial units of a move of the tops of files, in order, and the numbers of units of the files; a file of which nothing
-- moves has no partial unit; and each of which something moves is written.
pub record HaveUnits (docs : List (Doc ℕ)) (m : Move) (parts : List Partial) (counts : List ℕ) (written : List Bool) : Type 0 where
  pub parts_are : map (shown_part (length docs)) m.parts ≡ parts
  pub order : AreInOrder m (length docs)
  pub still : (file : ℕ) → changes m (units_of docs) file ≡ false → parts_at m (Local file) ≡ []
  pub counts_are : counts ≡ map (λ doc. length doc.units) docs
  pub changed : (file : ℕ) → changes m (units_of docs) file ≡ true → IsFileWritten written file

-- The numbers of the units that are written of planned files.
use Rattle.std.specs.Prelude.{◌≡◌, ℕ, false, Bool, List, [], length, map}
use Rattle.dwz_def_reading.specs.Documents.{Doc}
use Rattle.dwz_def_tops.specs.Spots.{file_numbers, units_of}
use Rattle.dwz_def_images.specs.Homes.{Local}
use Rattle.dwz_def_images.specs.Moves.{Move}
use Rattle.dwz_def_images.specs.Units.{changes}
use Rattle.dwz_plan.specs.Planned.{Planned}
use Rattle.dwz_plan.specs.Shows.{shown_part}
use Rattle.dwz_layout_numbers.specs.declared.numbers.UnitNumbers.{UnitNumbers}
use Rattle.dwz_layout_numbers.specs.Numbering.{AreInOrder, parts_at}
use Rattle.dwz_layout_numbers.specs.Owners.{AreUnitNumbers}

-- each file has a flag, which says whether something of it moves
abbrev pub AreFlags : Move → List (Doc ℕ) → List Bool → Type 0
AreFlags m docs flags = flags ≡ map (changes m (units_of docs)) (file_numbers 0 docs)

-- These are the numbers of the units of files, by each move that has the partial units of this plan, in order, none of a file of which
-- nothing moves, and these flags.
abbrev pub AreNumbersOf : List (Doc ℕ) → Planned → (written : List Bool) → UnitNumbers → Type 0
AreNumbersOf docs plan written n =
    (m : Move) → map (shown_part (length docs)) m.parts ≡ plan.partials → AreInOrder m (length docs)
    → ((file : ℕ) → changes m (units_of docs) file ≡ false → parts_at m (Local file) ≡ []) → AreFlags m docs written
    → AreUnitNumbers m (units_of docs) written n.commons n.parts.items n.olds.items

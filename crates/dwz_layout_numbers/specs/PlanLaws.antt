-- What is asked of a move holds of the plan.
use Rattle.std.specs.Prelude.{◌≡◌, ℕ, false, List, [], length}
use Rattle.dwz_def_reading.specs.Documents.{Doc}
use Rattle.dwz_def_tops.specs.Alike.{IsAlike, TopScope}
use Rattle.dwz_def_tops.specs.Spots.{EntryName, FileUnit, units_of}
use Rattle.dwz_def_images.specs.Homes.{IsChoice, Local, Rule}
use Rattle.dwz_def_images.specs.Moves.{plan}
use Rattle.dwz_def_images.specs.Units.{changes}
use Rattle.dwz_layout_numbers.specs.Images.{HaveStandIns}
use Rattle.dwz_layout_numbers.specs.Numbering.{AreInOrder, parts_at}
use Rattle.dwz_layout_numbers.specs.OwnerLaws.{HoldTops}
use Rattle.dwz_plan.specs.MoveOf.{move_of}

-- a top that stands for others is alike to them
abbrev pub PlanStandsLaw : Type 0
PlanStandsLaw =
    (scope : TopScope) (docs : List (Doc ℕ)) (rule : Rule) → IsAlike scope (units_of docs) rule.alike → (files : List ℕ)
    → HaveStandIns docs (plan rule (units_of docs) files)

-- a partial unit has its tops
abbrev pub PlanHoldsLaw : Type 0
PlanHoldsLaw = (rule : Rule) (units : List (FileUnit EntryName)) (files : List ℕ) → HoldTops units (plan rule units files)

-- partial units are in order
abbrev pub PlanOrderLaw : Type 0
PlanOrderLaw = (docs : List (Doc ℕ)) (rule : Rule) → AreInOrder (move_of rule docs) (length docs)

-- a file of which nothing moves has none
abbrev pub PlanStillLaw : Type 0
PlanStillLaw =
    (scope : TopScope) (docs : List (Doc ℕ)) (rule : Rule) → IsAlike scope (units_of docs) rule.alike → IsChoice (units_of docs) rule
    → (file : ℕ) → changes (move_of rule docs) (units_of docs) file ≡ false → parts_at (move_of rule docs) (Local file) ≡ []

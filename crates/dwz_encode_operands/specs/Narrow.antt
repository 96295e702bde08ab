-- The first operand whose new number needs more bytes than it has.
use Rattle.std.specs.Prelude.{◌≡◌, ℕ, ◌-◌, ◌≤◌, List, Option, Some, None}
use Rattle.dwz_def_reading.specs.Lists.{In}
use Rattle.dwz_def_reading.specs.Units.{RawUnit}
use Rattle.dwz_def_reading.specs.Meanings.{Around}
use Rattle.dwz_def_reading.specs.NamedLists.{lists_of_units}
use Rattle.dwz_def_reading.specs.Shared.{AreRows, ListOperand, NoneShared, operands_in_lists}
use Rattle.dwz_model.specs.declared.fault.Fault.{Fault}
use Rattle.dwz_def_readback.specs.Files.{CommonFile, Made, Run, name_after, places_by}
use Rattle.dwz_def_output.specs.Contents.{operand_number_after_by}
use Rattle.dwz_def_output.specs.Refusals.{FirstNarrowBy, IsOver, narrow_at}
use Rattle.dwz_def_encoding.specs.Meant.{led_to}
use Rattle.dwz_def_encoding.specs.Writing.{base_place}

-- it needs more, if this is its new number
abbrev pub NeedsMore : (ListOperand → ℕ) → ListOperand → Type 0
NeedsMore number o = IsOver o.operand.uleb o.operand.width (number o)

-- one of the operands does, and stands there; each that does stands there or behind it
pub record IsFirstPlace (number : ListOperand → ℕ) (operands : List ListOperand) (at : ℕ) : Type 0 where
  pub operand : ListOperand
  pub there : In operand operands
  pub narrow : NeedsMore number operand
  pub least : (o : ListOperand) → In o operands → NeedsMore number o → operand.operand.at ≤ o.operand.at
  pub stands : at ≡ operand.operand.at

-- the first place, or none does
abbrev pub FirstPlace : (ListOperand → ℕ) → List ListOperand → Option ℕ → Type 0
FirstPlace number operands None = (o : ListOperand) → In o operands → NeedsMore number o → ⊥
FirstPlace number operands (Some at) = IsFirstPlace number operands at

-- the new number of an operand, where what stood at a place stands after: counted as before
abbrev pub number_by : (ℕ → ℕ) → ListOperand → ℕ
number_by after o = after (led_to o.unit o.operand) - base_place (after o.unit) o.operand.base

-- ---- laws

-- where what stood at a place of a file stands after, by a run: at the place of its name
abbrev pub after_in_by : CommonFile → Run → ℕ → ℕ → ℕ
after_in_by k r file p = (places_by k r).place (name_after r file p)

abbrev pub after_in : Run → ℕ → ℕ → ℕ
after_in = after_in_by Made

-- the new numbers of the run are such
abbrev pub RunLaw : Type 0
RunLaw =
    (k : CommonFile) (r : Run) (file : ℕ) (o : ListOperand) → operand_number_after_by k r file o ≡ number_by (after_in_by k r file) o

-- the first place of the operands of location lists that stand once is that of all, where no list is shared
abbrev pub ListedLaw : Type 0
ListedLaw = (around : Around ℕ) (raw : List RawUnit) (after : ℕ → ℕ) (rows : List ListOperand) (first : Option ℕ)
    → NoneShared (lists_of_units around raw) → AreRows (lists_of_units around raw) rows → FirstPlace (number_by after) rows first
    → FirstPlace (number_by after) (operands_in_lists (lists_of_units around raw)) first

-- the first place is that of the first narrow operand of the run
abbrev pub FoundLaw : Type 0
FoundLaw = (k : CommonFile) (r : Run) (file section : ℕ) (operands : List ListOperand) (at : ℕ)
    → FirstPlace (number_by (after_in_by k r file)) operands (Some at) → FirstNarrowBy k r file section operands (narrow_at section at)

-- where there is none, no operand is narrow
abbrev pub NoneLaw : Type 0
NoneLaw = (k : CommonFile) (r : Run) (file section : ℕ) (operands : List ListOperand)
    → FirstPlace (number_by (after_in_by k r file)) operands None
    → (f : Fault) → FirstNarrowBy k r file section operands f → ⊥

-- What is kept of rows that are known.
use Rattle.std.specs.Prelude.{◌≡◌, ℕ, List, Option, Some, None, slice_get}
use Rattle.std.specs.List.{All}
use Rattle.dwz_bytes.specs.Input.{Input}
use Rattle.dwz_def_reading.specs.LineTables.{PathRow, TextSections}
use Rattle.dwz_lines.specs.declared.known_rows.KnownRows.{KnownRows}
use Rattle.dwz_lines.specs.declared.known_rows.Step.{Step}
use Rattle.dwz_lines.specs.declared.known_rows.Steps.{Steps}
use Rattle.dwz_lines.specs.declared.runs.Run.{Run}
use Rattle.dwz_lines.specs.Known.{Skips, Spans}
use Rattle.dwz_lines.specs.Marks.{IsMark}
use Rattle.dwz_lines.specs.RowViews.{item_of, strings_view}

abbrev pub Item : Type 0
Item = Input → Option (PathRow × Input)

-- so many rows with so many bytes begin at a place
abbrev pub IsStep : Item → List ℕ → ℕ → Step → Type 0
IsStep item line place step = Spans item line place step.rows step.bytes

pub record AreSteps (item : Item) (line : List ℕ) (place : ℕ) (steps : Steps) : Type 0 where
  pub next : IsStep item line place steps.next
  pub jump : IsStep item line place steps.jump

-- the steps with a number are those from that place
abbrev pub AreKnown : Item → List ℕ → List Steps → Type 0
AreKnown item line known = (place : ℕ) (steps : Steps) → slice_get known place ≡ Some steps → AreSteps item line place steps

abbrev pub IsSound : KnownRows → Type 0
IsSound known = AreKnown (item_of known.reader) known.line.now known.steps.items

-- rows of that section, whose texts stand there
pub record IsOf (section : List ℕ) (s : TextSections) (known : KnownRows) : Type 0 where
  pub sound : IsSound known
  pub line : known.line.now ≡ section
  pub strings : strings_view known.reader.strings ≡ s

abbrev pub AreOf : List ℕ → TextSections → Option KnownRows → Type 0
AreOf line s None = Unit {0}
AreOf line s (Some known) = IsOf line s known

-- so many rows from an input on end where the run does, and its marks are of these
pub record IsRun (item : Item) (count : ℕ) (i : Input) (run : Run) : Type 0 where
  pub skips : Skips item count i run.end
  pub marks : All (IsMark item i) run.marks.items

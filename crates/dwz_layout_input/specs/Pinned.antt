-- Which spaces are pinned: a ULEB128 operand of an expression names them.
use Rattle.std.specs.Prelude.{◌≡◌, ℕ, Bool, List, length}
use Rattle.dwz_def_tops.specs.Spots.{EntryName, FileUnit, tops_of}
use Rattle.dwz_def_reading.specs.Documents.{Node}
use Rattle.dwz_def_images.specs.Moves.{Move}
use Rattle.dwz_def_images.specs.Plan.{pinned_of}
use Rattle.dwz_def_reading.specs.Lists.{Each}
use Rattle.dwz_layout_order.specs.declared.marks.Marks.{Marks}
use Rattle.dwz_layout_order.specs.Marks.{flag_at}
use Rattle.dwz_layout_order.specs.Named.{MarksAll, MarksTop}
use Rattle.dwz_layout_order.specs.Spaces.{Numbered, spaces_of}

-- the flag with the number of a space says whether it is pinned
abbrev pub FlagsSpace : List (FileUnit EntryName) → List Bool → ℕ → Node EntryName → Type 0
FlagsSpace units flags k e = flag_at flags k ≡ (pinned_of units).space e.at

-- there is a flag for each space, which says whether an operand of an expression that is a ULEB128 number names it
pub record ArePinned (units : List (FileUnit EntryName)) (flags : List Bool) : Type 0 where
  pub len : length flags ≡ length (spaces_of units)
  pub each : Numbered (FlagsSpace units flags) 0 (spaces_of units)

-- with what is known of each top, all is known
abbrev pub MarksLaw : Type 0
MarksLaw =
    (moved : Move) (units : List (FileUnit EntryName)) (marks : Marks) → Each (MarksTop moved.gone (pinned_of units) marks) (tops_of units)
    → ArePinned units marks.spaces.now
    → MarksAll moved units marks

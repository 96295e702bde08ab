-- Inner: what is new in the files of a run, and in their common file, before they are written.
use Rattle.std.specs.Prelude.{◌≡◌, ℕ, true, false, List, length, Option, Some, None}
use Rattle.std.specs.List.{range_with_len}
use Rattle.dwz_model.specs.declared.fault.Fault.{Fault}
use Rattle.dwz_model.specs.declared.sections.Sections.{Sections}
use Rattle.dwz_def_tops.specs.Lists.{Nth}
use Rattle.dwz_def_images.specs.Units.{changes}
use Rattle.dwz_def_readback.specs.Files.{CommonFile, Made, Run, imports_common}
use Rattle.dwz_def_output.specs.Contents.{common_after, listed, sections_after_by}
use Rattle.dwz_def_output.specs.FilesAfter.{has_common}
use Rattle.dwz_def_output.specs.Refusals.{FirstNarrowBy, spoken}
use Rattle.dwz_def_reading.specs.FirstOf.{OrElse}
use Rattle.dwz_def_output.specs.declared.new_file.NewFile.{NewFile}

-- this is such a thing; or there is none
abbrev pub IsFound : {X : Type 0} → (X → Type 0) → Option X → Type 0
IsFound Is (Some x) = Is x
IsFound {X} Is None = (x : X) → ¬ Is x

-- the first operand of a file whose new number doesn't fit: in `.debug_info`, or else in `.debug_loclists`
abbrev pub NarrowFaultBy : CommonFile → Run → ℕ → Fault → Type 0
NarrowFaultBy k r file = OrElse (FirstNarrowBy k r file 1 (spoken r file)) (FirstNarrowBy k r file 7 (listed r file))

abbrev pub NarrowFault : Run → ℕ → Fault → Type 0
NarrowFault = NarrowFaultBy Made

-- what is new in a file of which something moves, with such a common file
pub record IsNewFileBy (k : CommonFile) (r : Run) (file : ℕ) (n : NewFile) : Type 0 where
  pub moves : changes r.move r.units file ≡ true
  pub sections : n.sections ≡ sections_after_by k r file
  pub narrow : IsFound (NarrowFaultBy k r file) n.narrow
  pub imports : n.imports ≡ imports_common r.move r.units file

abbrev pub IsNewFile : Run → ℕ → NewFile → Type 0
IsNewFile = IsNewFileBy Made

-- a file stays as it is where nothing of it moves
abbrev pub IsNewOrOldBy : CommonFile → Run → ℕ → Option NewFile → Type 0
IsNewOrOldBy k r file None = changes r.move r.units file ≡ false
IsNewOrOldBy k r file (Some n) = IsNewFileBy k r file n

abbrev pub IsNewOrOld : Run → ℕ → Option NewFile → Type 0
IsNewOrOld = IsNewOrOldBy Made

-- this is new in the files of the run, in order, which have so many partial units together
pub record AreNewBy (k : CommonFile) (r : Run) (made : List (Option NewFile)) (partials : ℕ) : Type 0 where
  pub files : r.files ≡ range_with_len 0 (length made)
  pub each : (file : ℕ) (new : Option NewFile) → Nth 0 made file new → IsNewOrOldBy k r file new
  pub parts : partials ≡ length r.move.parts

abbrev pub AreNew : Run → List (Option NewFile) → ℕ → Type 0
AreNew = AreNewBy Made

-- these are the sections of the common file of the run, if there is one
abbrev pub IsNewCommon : Run → Option Sections → Type 0
IsNewCommon r None = has_common r ≡ false
IsNewCommon r (Some s) = (has_common r ≡ true) × (s ≡ common_after r)

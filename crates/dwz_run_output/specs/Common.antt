-- The common file: why it is refused, and what is made of it.
use Rattle.std.specs.Prelude.{◌≡◌, ℕ, ◌+◌, ◌≤◌, true, false, List, length, Option, Some, None}
use Rattle.dwz_model.specs.declared.fault.Fault.{Fault}
use Rattle.dwz_model.specs.declared.sections.Sections.{Sections}
use Rattle.dwz_def_reading.specs.ElfLayout.{too_large}
use Rattle.dwz_def_reading.specs.Supplementary.{sup_bytes}
use Rattle.dwz_def_output.specs.Changed.{changes_by}
use Rattle.dwz_sup.specs.Common.{common_length}
use Rattle.dwz_def_readback.specs.Files.{Run}
use Rattle.dwz_words.specs.declared.options.Options.{Options}
use Rattle.dwz_def_output.specs.FilesAfter.{common_bytes, has_common, sup_of}
use Rattle.dwz_def_run.specs.Out.{sup_name}
use Rattle.dwz_def_output.specs.Refusals.{IsLargeSection, too_large_at}
use Rattle.dwz_def_reading.specs.FirstOf.{OfFirst, OrElse}
use Rattle.dwz_run_output.specs.declared.common.CommonFile.{CommonFile}

-- ---- its first fault

-- the file with these sections is too large
abbrev pub IsLargeWith : Sections → Fault → Type 0
IsLargeWith s f = (f ≡ too_large_at 0) × (too_large ≤ common_length s)

-- the first section that is too large, or else the file, if there is one
abbrev pub FaultWith : Option Sections → Fault → Type 0
FaultWith None = λ f. ⊥
FaultWith (Some s) = OrElse (OfFirst IsLargeSection (changes_by s None).new) (IsLargeWith s)

-- ---- its bytes

-- how many bytes a section adds to a file of the plain layout: its content, its name with a zero byte, and a section header
abbrev pub room_of : List ℕ → Option (List ℕ) → ℕ
room_of name None = 0
room_of name (Some bytes) = length bytes + length name + 65

-- the common file of the run, if there is one, and what `.debug_sup` of the files says that import from it
abbrev pub IsCommonMade : Options → Run → Option CommonFile → Type 0
IsCommonMade o r None = has_common r ≡ false
IsCommonMade o r (Some c) = (has_common r ≡ true) × (c.bytes ≡ common_bytes r) × (c.sup ≡ sup_bytes (sup_of (sup_name o) r))

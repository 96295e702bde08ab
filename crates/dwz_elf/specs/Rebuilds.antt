-- What a file that is to be made from another is, and what making it answers.
use Rattle.std.specs.Prelude.{◌≡◌, ◌⊎◌, ℕ, ◌<◌, ◌≤◌, List, ◌∷◌, Option, Some, None, Result, Ok, Err}
use Rattle.dwz_model.specs.declared.fault.Fault.{Fault}
use Rattle.dwz_model.specs.declared.fault.Reason.TheVariants.{TooLarge}
use Rattle.dwz_model.specs.declared.fault.ReadErr.{ReadErr}
use Rattle.dwz_model.specs.declared.fault.ReadErr.TheVariants.{Refused, NoMemory}
use Rattle.dwz_def_reading.specs.ElfFaults.{file_fault}
use Rattle.dwz_def_reading.specs.ElfLayout.{Changes, IsOrder, layout_fault, rebuilt, rebuilt_length, too_large}
use Rattle.dwz_def_reading.specs.ElfReading.{ElfView}
use Rattle.dwz_elf.specs.declared.edits.Edits.{Edits}

-- the sections of the old file, and what is new
pub record RebuildView : Type 0 where
  pub elf : ElfView
  pub changes : Changes

abbrev pub changes_of : Edits → Changes
changes_of edits = record { new = edits.replaced.items; sup = edits.sup }

-- the same with a new content for the section with that code
abbrev pub replaced : ℕ → List ℕ → RebuildView → RebuildView
replaced code bytes r =
    record { elf = r.elf; changes = record { new = record { code = code; bytes = bytes } ∷ r.changes.new; sup = r.changes.sup } }

-- the same with `.debug_sup`
abbrev pub with_sup : List ℕ → RebuildView → RebuildView
with_sup bytes r = record { elf = r.elf; changes = record { new = r.changes.new; sup = Some bytes } }

-- the file was made: nothing keeps it from being laid out, and it isn't too large
pub record IsRebuilt (r : RebuildView) (input out : List ℕ) : Type 0 where
  pub fits : layout_fault r.elf r.changes ≡ None
  pub order : List (ℕ × ℕ)
  pub is_order : IsOrder r.elf order
  pub small : rebuilt_length r.elf r.changes input order < too_large
  pub bytes : out ≡ rebuilt r.elf r.changes input order

pub record IsTooLarge (r : RebuildView) (input : List ℕ) (f : Fault) : Type 0 where
  pub fits : layout_fault r.elf r.changes ≡ None
  pub order : List (ℕ × ℕ)
  pub is_order : IsOrder r.elf order
  pub large : too_large ≤ rebuilt_length r.elf r.changes input order
  pub fault : f ≡ file_fault TooLarge 0

-- The new file was answered, or why it can't be laid out, or that it is too large. Want of memory is always an answer.
abbrev pub Finishes : {A : Type 0} → (A → List ℕ) → RebuildView → List ℕ → Result A ReadErr → Type 0
Finishes items r input (Ok out) = IsRebuilt r input (items out)
Finishes items r input (Err (Refused f)) = (layout_fault r.elf r.changes ≡ Some f) ⊎ IsTooLarge r input f
Finishes items r input (Err NoMemory) = Unit {0}

-- the file whose sections are in that order, unless it is too large
abbrev pub IsWritten : {A : Type 0} → (A → List ℕ) → ElfView → Changes → List ℕ → List (ℕ × ℕ) → Option A → Type 0
IsWritten items e changes input order None = too_large ≤ rebuilt_length e changes input order
IsWritten items e changes input order (Some out) =
    (rebuilt_length e changes input order < too_large) × (items out ≡ rebuilt e changes input order)

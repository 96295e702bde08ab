-- The faults of the front of a file, and then those of its section headers.
use Rattle.std.proofs.Common.{◌≡◌, ℕ, List, length, Option, Some, None, refl, sym, ◌∙◌}
use Rattle.dwz_model.specs.declared.fault.Fault.{Fault}
use Rattle.dwz_def_reading.specs.declared.elf.FileHeader.{FileHeader}
use Rattle.dwz_def_reading.specs.declared.elf.Section.{Section}
use Rattle.dwz_def_reading.specs.ElfFaults.{ElfManner}
use Rattle.dwz_def_reading.specs.ElfHeaders.{file_header}
use Rattle.dwz_def_reading.specs.ElfNames.{names_header, sections_in}
use Rattle.dwz_def_reading.specs.ElfReading.{elf_fault_for, elf_of, field_fault_for, identification_fault, names_fault}
use Rattle.dwz_def_reading.specs.FirstOf.{◌or◌}
use Rattle.dwz_elf.specs.Reads.{front_fault_for, rest_fault_for}

or_or : (a b c d : Option Fault) → (a or (b or (c or d))) ≡ ((a or (b or c)) or d)
or_or (Some f) b c d = refl
or_or None (Some f) c d = refl
or_or None None c d = refl

module _ (m : ElfManner) (bytes : List ℕ) where
  parts : elf_fault_for m bytes ≡ (front_fault_for m bytes or rest_fault_for m (length bytes) (file_header bytes).names (sections_in bytes))
  unfolding elf_fault_for front_fault_for rest_fault_for
  parts =
      or_or (identification_fault bytes) (field_fault_for m (length bytes) (file_header bytes)) (names_fault (length bytes) (names_header bytes))
      (rest_fault_for m (length bytes) (file_header bytes).names (sections_in bytes))

  pub first_half : (f : Fault) → Some f ≡ front_fault_for m bytes → elf_fault_for m bytes ≡ Some f
  first_half f front = parts ∙ (rw (← front) refl)

  pub second_half : (rest : Option Fault) (len names : ℕ) (file : FileHeader) (sections : List Section) → None ≡ front_fault_for m bytes → rest ≡ rest_fault_for m len names sections
      → len ≡ length bytes → names ≡ file.names → file ≡ file_header bytes → sections ≡ sections_in bytes → elf_fault_for m bytes ≡ rest
  second_half rest len names file sections front is len_is names_is file_is sections_is =
      let same : rest_fault_for m len names sections ≡ rest_fault_for m (length bytes) (file_header bytes).names (sections_in bytes) = cc in
      parts ∙ ((rw (← front) (sym same)) ∙ sym is)

pub whole_view : (bytes : List ℕ) (file : FileHeader) (sections : List Section) → file ≡ file_header bytes → sections ≡ sections_in bytes
    → record { length = length bytes; file = file; sections = sections } ≡ elf_of bytes
unfolding elf_of
whole_view bytes file sections file_is sections_is = cc

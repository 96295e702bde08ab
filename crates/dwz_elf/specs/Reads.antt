-- What a call answered, beside what the definitions say.
use Rattle.std.specs.Prelude.{◌≡◌, ℕ, ◌<◌, ◌≤◌, List, [], length, Option, Some, None, Result, Ok, Err}
use Rattle.dwz_model.specs.declared.fault.Fault.{Fault}
use Rattle.dwz_model.specs.declared.fault.ReadErr.{ReadErr}
use Rattle.dwz_model.specs.declared.fault.ReadErr.TheVariants.{Refused, NoMemory}
use Rattle.dwz_def_reading.specs.declared.elf.Section.{Section}
use Rattle.dwz_def_reading.specs.ElfFaults.{ElfManner, by_itself}
use Rattle.dwz_def_reading.specs.ElfReading.{field_fault_for, first_in, header_fault, identification_fault, missing_fault, names_fault, unkept_fault_for}
use Rattle.dwz_def_reading.specs.FirstOf.{◌or◌}
use Rattle.dwz_def_reading.specs.ElfHeaders.{end_of, file_header, headers_end}
use Rattle.dwz_def_reading.specs.ElfNames.{names_header}

-- It was made where there is no fault, and then it is the value. A refusal is the fault. Want of memory is always an answer.
abbrev pub GivesOrRefuses : {X : Type 0} → Result X ReadErr → Option Fault → X → Type 0
GivesOrRefuses (Ok x) fault value = (fault ≡ None) × (x ≡ value)
GivesOrRefuses (Err (Refused f)) fault value = fault ≡ Some f
GivesOrRefuses (Err NoMemory) fault value = Unit {0}

-- the file holds its header, its section headers and its name table whole
pub record IsWhole (bytes : List ℕ) : Type 0 where
  pub file : 64 ≤ length bytes
  pub headers : headers_end (file_header bytes) ≤ length bytes
  pub named : (file_header bytes).names < (file_header bytes).headers
  pub names : end_of (names_header bytes) ≤ length bytes

-- the first fault of the file header and of the name table, and that of the section headers, of a file that is read in a manner
unfoldable pub front_fault_for : ElfManner → List ℕ → Option Fault
front_fault_for m bytes = identification_fault bytes
    or (field_fault_for m (length bytes) (file_header bytes) or names_fault (length bytes) (names_header bytes))

unfoldable pub rest_fault_for : ElfManner → ℕ → ℕ → List Section → Option Fault
rest_fault_for m len names sections = first_in (header_fault len names) [] sections
    or (first_in (λ before. unkept_fault_for m sections) [] sections or missing_fault sections)

-- the former of a file by itself
abbrev pub front_fault_of : List ℕ → Option Fault
front_fault_of = front_fault_for by_itself

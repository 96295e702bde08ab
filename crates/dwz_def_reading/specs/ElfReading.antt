-- What reading an ELF file gives: its sections, or the first fault.
use Rattle.std.specs.Prelude.{ℕ, ◌+◌, List, [], ◌∷◌, ◌++◌, length, take, drop, Bool, false, ◌==◌, ◌&&◌, ◌||◌, not, nat_lt, if◌then◌else◌}
use Rattle.std.specs.Prelude.{Option, Some, None, slice_get}
use Rattle.std.specs.Int.{is_power_of_two}
use Rattle.std.specs.List.{list_any}
use Rattle.dwz_model.specs.declared.fault.Fault.{Fault}
use Rattle.dwz_model.specs.declared.fault.Reason.{Reason}
use Rattle.dwz_model.specs.declared.fault.Reason.TheVariants.{NotElf, FileType, SectionTable, Compressed, NoDebugInfo, Index}
use Rattle.dwz_def_reading.specs.declared.elf.FileHeader.{FileHeader}
use Rattle.dwz_def_reading.specs.declared.elf.Header.{Header}
use Rattle.dwz_def_reading.specs.declared.elf.Section.{Section}
use Rattle.dwz_def_reading.specs.ElfFaults.{ElfManner, by_itself, file_fault, identification, is_index}
use Rattle.dwz_def_reading.specs.FirstOf.{◌or◌}
use Rattle.dwz_def_reading.specs.ElfHeaders.{end_of, file_header, has_relocations, headers_end, is_compressed, is_there, program_headers_end}
use Rattle.dwz_def_reading.specs.ElfNames.{names_header, sections_in}

-- ---- the sections

-- a file's length in bytes, its header, and its sections by index
pub record ElfView : Type 0 where
  pub length : ℕ
  pub file : FileHeader
  pub sections : List Section

unfoldable pub elf_of : List ℕ → ElfView
elf_of bytes = record { length = length bytes; file = file_header bytes; sections = sections_in bytes }

-- whether it is there and has that code
abbrev pub has_code : ℕ → Section → Bool
has_code code s = is_there s.header && s.name.code == code

abbrev pub range_in : List Section → ℕ → Option (ℕ × ℕ)
range_in [] code = None
range_in (s ∷ sections) code = if has_code code s then Some (s.header.offset, s.header.size) else range_in sections code

-- The range of the section with a code, in bytes from the first of the file: of the first that is there, and in a file that
-- is read no two have one code. 0 is no section's code.
unfoldable pub section_range : List Section → ℕ → Option (ℕ × ℕ)
section_range sections code = if code == 0 then None else range_in sections code

-- the bytes of a range; none where there is none
abbrev pub bytes_in : List ℕ → Option (ℕ × ℕ) → List ℕ
bytes_in bytes None = []
bytes_in bytes (Some range) = take range.1 (drop range.0 bytes)

-- ---- the first fault

abbrev pub fault_if : Bool → Reason → ℕ → Option Fault
fault_if test reason at = if test then Some (file_fault reason at) else None

-- the first fault of the items of a list in order, each given the items before it
unfoldable pub first_in : {X : Type 0} → (List X → X → Option Fault) → List X → List X → Option Fault
first_in fault_of before [] = None
first_in fault_of before (x ∷ xs) = fault_of before x or first_in fault_of (before ++ x ∷ []) xs

-- the place of the first byte that isn't the wanted one, or is missing
unfoldable pub first_other : ℕ → List ℕ → List ℕ → Option ℕ
first_other at [] bytes = None
first_other at (w ∷ wanted) [] = Some at
first_other at (w ∷ wanted) (b ∷ bytes) = if b == w then first_other (at + 1) wanted bytes else Some at

abbrev pub wrong_byte : Option ℕ → Option Fault
wrong_byte (Some at) = Some (file_fault NotElf at)
wrong_byte None = None

unfoldable pub identification_fault : List ℕ → Option Fault
identification_fault bytes =
    wrong_byte (first_other 0 identification bytes) or fault_if (nat_lt (length bytes) 64) NotElf (length bytes)

-- a fault of the file header's fields, in a file of that length
unfoldable pub field_fault_for : ElfManner → ℕ → FileHeader → Option Fault
field_fault_for m len file =
    fault_if (not (file.kind == 2) && not (file.kind == 3)) FileType 16
    or (fault_if (file.headers_at == 0) SectionTable 40
    or (fault_if (not (file.header_size == 64)) SectionTable 58
    or (fault_if (file.headers == 0 || nat_lt m.headers file.headers) SectionTable 60
    or (fault_if (file.names == 0 || not (nat_lt file.names file.headers)) SectionTable 62
    or (fault_if (nat_lt len (headers_end file)) SectionTable 40
    or fault_if (not (file.program_headers == 0) && nat_lt len (program_headers_end file)) SectionTable 32)))))

abbrev pub field_fault : ℕ → FileHeader → Option Fault
field_fault = field_fault_for by_itself

-- a fault of the name table, by its header
unfoldable pub names_fault : ℕ → Header → Option Fault
names_fault len names = fault_if (not (is_there names) || nat_lt len (end_of names)) SectionTable 62

abbrev pub is_misaligned : Header → Bool
is_misaligned h = not (h.align == 0) && not (is_power_of_two h.align)

abbrev pub is_misplaced : ℕ → Header → Bool
is_misplaced len h = is_there h && nat_lt 0 h.size && (nat_lt len (end_of h) || nat_lt h.offset 64)

abbrev pub is_misnamed : ℕ → List Section → Section → Bool
is_misnamed names before s =
    not (s.name.code == 0)
    && ((is_there s.header && list_any (has_code s.name.code) before) || length before == names)

-- a section header that no file may have, given the sections before it
abbrev pub is_wrong : ℕ → ℕ → List Section → Section → Bool
is_wrong len names before s =
    is_misaligned s.header || (is_misplaced len s.header || (not s.name.ends || is_misnamed names before s))

unfoldable pub header_fault : ℕ → ℕ → List Section → Section → Option Fault
header_fault len names before s = fault_if (is_wrong len names before s) SectionTable s.header.at

-- whether the section of that index is there, and is written again
abbrev pub is_rewritten : Option Section → Bool
is_rewritten (Some t) = is_there t.header && not (t.name.code == 0) && nat_lt t.name.code 9
is_rewritten None = false

unfoldable pub unkept_fault_for : ElfManner → List Section → Section → Option Fault
unkept_fault_for m sections s =
    fault_if (is_there s.header && (is_index m.sup s || (has_relocations s.header && is_rewritten (slice_get sections s.header.info))))
    Index s.header.at
    or fault_if (is_there s.header && s.name.is_debug && is_compressed s.header) Compressed s.header.at

abbrev pub unkept_fault : List Section → Section → Option Fault
unkept_fault = unkept_fault_for by_itself

unfoldable pub missing_fault : List Section → Option Fault
missing_fault sections =
    fault_if (not (list_any (has_code 1) sections) || not (list_any (has_code 2) sections)) NoDebugInfo 0

-- the first fault of an ELF file
unfoldable pub elf_fault_for : ElfManner → List ℕ → Option Fault
elf_fault_for m bytes =
    let file = file_header bytes in
    let sections = sections_in bytes in
    identification_fault bytes
    or (field_fault_for m (length bytes) file
    or (names_fault (length bytes) (names_header bytes)
    or (first_in (header_fault (length bytes) file.names) [] sections
    or (first_in (λ before. unkept_fault_for m sections) [] sections
    or missing_fault sections))))

abbrev pub elf_fault : List ℕ → Option Fault
elf_fault = elf_fault_for by_itself

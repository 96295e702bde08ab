-- ELF files of a plain layout (ELF-64 Object File Format): the file header, then the contents of the sections without gaps, the
-- table of their names last, and then the section headers. And which sections the supplementary file has.
use Rattle.std.specs.Prelude.{◌≡◌, ◌≢◌, ℕ, ◌+◌, ◌-◌, ◌*◌, ◌^◌, ◌<◌, ◌≤◌, bit_and, All, AllPairs, Any, List, [], ◌∷◌, ◌++◌, length, map}
use Rattle.std.specs.Prelude.{replicate, Option, Some, None, codes, true}
use Rattle.std.specs.Int.{next_multiple_of}
use Rattle.std.specs.List.{flat_map}
use Rattle.dwz_model.specs.declared.fault.Fault.{Fault}
use Rattle.dwz_model.specs.declared.fault.Reason.TheVariants.{Index}
use Rattle.dwz_model.specs.declared.sections.Sections.{Sections}
use Rattle.dwz_def_reading.specs.declared.elf.FileHeader.{FileHeader}
use Rattle.dwz_def_reading.specs.declared.elf.Section.{Section}
use Rattle.dwz_def_reading.specs.ElfFaults.{identification}
use Rattle.dwz_def_reading.specs.ElfLayout.{numbers, too_large}
use Rattle.dwz_def_reading.specs.ElfNames.{code_of, known_name}
use Rattle.dwz_def_reading.specs.ElfReading.{fault_if, first_in}
use Rattle.dwz_def_reading.specs.Supplementary.{sup_bytes}
use Rattle.dwz_def_reading.specs.TextRows.{text_section}
use Rattle.dwz_def_reading.specs.Texts.{NoZero}

-- a section: its name, sh_flags, sh_entsize, and its content
pub record PlainSection : Type 0 where
  pub name : List ℕ
  pub flags : ℕ
  pub entry_size : ℕ
  pub bytes : List ℕ

-- ---- names and contents

-- the names of the sections, each with its zero byte
abbrev pub section_names : List PlainSection → List ℕ
section_names sections = text_section (map (λ s. s.name) sections)

-- the name table: a zero byte, and then the names, that of the table itself last
abbrev pub plain_names : List PlainSection → List ℕ
plain_names sections = 0 ∷ (section_names sections ++ (codes ".shstrtab" ++ 0 ∷ []))

-- the contents, one behind the other
abbrev pub plain_contents : List PlainSection → List ℕ
plain_contents sections = flat_map (λ s. s.bytes) sections

-- ---- where things are, in bytes from the first of the file

-- the name table, behind the file header and the contents
abbrev pub plain_names_at : List PlainSection → ℕ
plain_names_at sections = 64 + length (plain_contents sections)

abbrev pub plain_end : List PlainSection → ℕ
plain_end sections = plain_names_at sections + length (plain_names sections)

-- the section headers
abbrev pub plain_headers_at : List PlainSection → ℕ
plain_headers_at sections = next_multiple_of (plain_end sections) 8

-- ---- headers

-- The fields of the file header behind its identification: e_type (ET_DYN), e_machine, e_version, e_entry, e_phoff, e_shoff,
-- e_flags, e_ehsize, e_phentsize, e_phnum, e_shentsize, e_shnum, e_shstrndx.
abbrev pub file_fields : ℕ → ℕ → ℕ → ℕ → List (ℕ × ℕ)
file_fields machine flags headers_at count =
    (2, 3) ∷ (2, machine) ∷ (4, 1) ∷ (8, 0) ∷ (8, 0) ∷ (8, headers_at) ∷ (4, flags) ∷ (2, 64) ∷ (2, 0) ∷ (2, 0) ∷ (2, 64) ∷ (2, count)
    ∷ (2, count - 1) ∷ []

-- The fields of a section header: sh_name, sh_type, sh_flags, sh_addr, sh_offset, sh_size, sh_link, sh_info, sh_addralign,
-- sh_entsize.
abbrev pub section_fields : ℕ → ℕ → ℕ → ℕ → ℕ → ℕ → List (ℕ × ℕ)
section_fields name kind flags at size entry_size =
    (4, name) ∷ (4, kind) ∷ (8, flags) ∷ (8, 0) ∷ (8, at) ∷ (8, size) ∷ (4, 0) ∷ (4, 0) ∷ (8, 1) ∷ (8, entry_size) ∷ []

-- the section headers (SHT_PROGBITS), of which the first has its name and its content at these places
unfoldable pub plain_headers : ℕ → ℕ → List PlainSection → List ℕ
plain_headers name at [] = []
plain_headers name at (s ∷ sections) =
    numbers (section_fields name 1 s.flags at (length s.bytes) s.entry_size)
    ++ plain_headers (name + (length s.name + 1)) (at + length s.bytes) sections

-- the header of the name table (SHT_STRTAB)
abbrev pub names_header_bytes : List PlainSection → List ℕ
names_header_bytes sections =
    numbers (section_fields (1 + length (section_names sections)) 3 0 (plain_names_at sections) (length (plain_names sections)) 0)

-- ---- the file

-- the file header of a file with so many section headers there
abbrev pub plain_front : ℕ → ℕ → ℕ → ℕ → List ℕ
plain_front machine flags headers_at count = identification ++ (replicate 9 0 ++ numbers (file_fields machine flags headers_at count))

-- the file for a machine (e_machine) with these e_flags; the first section header is of zero bytes
unfoldable pub plain_file : ℕ → ℕ → List PlainSection → List ℕ
plain_file machine flags sections =
    let headers_at = plain_headers_at sections in
    plain_front machine flags headers_at (length sections + 2)
    ++ (plain_contents sections
    ++ (plain_names sections
    ++ (replicate (headers_at + 64 - plain_end sections) 0
    ++ (plain_headers 1 64 sections ++ names_header_bytes sections))))

-- ---- what it reads as

-- the numbers fit, and names have no zero byte
pub record FitsPlain (machine flags : ℕ) (sections : List PlainSection) : Type 0 where
  pub machine_fits : machine < 2 ^ 16
  pub flags_fit : flags < 2 ^ 32
  pub few : length sections + 2 ≤ 65278
  pub small : length (plain_file machine flags sections) < too_large
  pub names : All (λ s. NoZero s.name) sections
  pub section_flags : All (λ s. s.flags < 2 ^ 64) sections

-- the file header
abbrev pub plain_fields : ℕ → ℕ → List PlainSection → FileHeader
plain_fields machine flags sections = record {
  kind = 3;
  machine = machine;
  program_headers_at = 0;
  headers_at = plain_headers_at sections;
  flags = flags;
  program_header_size = 0;
  program_headers = 0;
  header_size = 64;
  headers = length sections + 2;
  names = length sections + 1;
}

-- a section header, by its own place, those of its name and its content, and what the name says
abbrev pub section_read : ℕ → ℕ → ℕ → ℕ → ℕ → ℕ → ℕ → List ℕ → Section
section_read place name kind flags at size align text = record {
  header = record { at = place; name = name; kind = kind; flags = flags; offset = at; size = size; info = 0; align = align };
  name = known_name (Some text);
}

-- the sections, of which the first has its header, its name and its content at these places
abbrev pub sections_read : ℕ → ℕ → ℕ → List PlainSection → List Section
sections_read place name at [] = []
sections_read place name at (s ∷ sections) =
    section_read place name 1 s.flags at (length s.bytes) 1 s.name ∷ sections_read (place + 64) (name + (length s.name + 1))
    (at + length s.bytes) sections

-- all sections, the null one first and the name table last
abbrev pub plain_sections : List PlainSection → List Section
plain_sections sections =
    let headers_at = plain_headers_at sections in
    section_read headers_at 0 0 0 0 0 0 []
    ∷ (sections_read (headers_at + 64) 1 64 sections
    ++ section_read (headers_at + 64 + 64 * length sections) (1 + length (section_names sections)) 3 0 (plain_names_at sections)
    (length (plain_names sections)) 1 (codes ".shstrtab") ∷ [])

-- their contents
abbrev pub contents_read : List PlainSection → List (List ℕ)
contents_read sections = [] ∷ (map (λ s. s.bytes) sections ++ plain_names sections ∷ [])

-- ---- which faults it has

-- no two sections have one code, `.debug_info` and `.debug_abbrev` are there, and none is compressed
pub record AreKnown (sections : List PlainSection) : Type 0 where
  pub different : AllPairs (λ a b. code_of a.name ≢ 0 → code_of a.name ≢ code_of b.name) sections
  pub info : Any (λ s. code_of s.name ≡ 1) sections
  pub abbrevs : Any (λ s. code_of s.name ≡ 2) sections
  pub uncompressed : All (λ s. bit_and s.flags 0x800 ≡ 0) sections

-- the first section that has the name of an index, or of a section that leads to another file
abbrev pub index_fault : List Section → Option Fault
index_fault sections = first_in (λ before s. fault_if s.name.is_index Index s.header.at) [] sections

-- ---- the supplementary file

abbrev pub plain_section : List ℕ → List ℕ → PlainSection
plain_section name bytes = record { name = name; flags = 0; entry_size = 0; bytes = bytes }

-- `.debug_str`: texts that a linker may merge (SHF_MERGE, SHF_STRINGS), of one byte a letter
abbrev pub text_section_of : List ℕ → PlainSection
text_section_of bytes = record { name = codes ".debug_str"; flags = 0x30; entry_size = 1; bytes = bytes }

-- a section that may be there
abbrev pub if_there : (List ℕ → PlainSection) → Option (List ℕ) → List PlainSection
if_there section None = []
if_there section (Some bytes) = section bytes ∷ []

-- the sections of the supplementary file: those that are there, in the order of their codes, and `.debug_sup` with that content
abbrev pub sections_with : Sections → List ℕ → List PlainSection
sections_with s sup =
    plain_section (codes ".debug_info") s.info
    ∷ plain_section (codes ".debug_abbrev") s.abbrev
    ∷ (if_there text_section_of s.strs
    ++ (if_there (plain_section (codes ".debug_str_offsets")) s.offsets
    ++ (if_there (plain_section (codes ".debug_line")) s.line
    ++ (if_there (plain_section (codes ".debug_loclists")) s.loclists
    ++ (if_there (plain_section (codes ".debug_aranges")) s.aranges
    ++ plain_section (codes ".debug_sup") sup ∷ [])))))

-- the same, by the checksum: `.debug_sup` says that the file is the supplementary one, and names no other
abbrev pub supplementary_sections : Sections → List ℕ → List PlainSection
supplementary_sections s sum = sections_with s (sup_bytes (record { supplementary = true; name = []; sum = sum }))

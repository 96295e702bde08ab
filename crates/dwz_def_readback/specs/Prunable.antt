-- Which files are pruned: those of whose texts nothing speaks but their units and the slots of `.debug_str_offsets` (DWARF 5, 6.2.4, 6.3,
-- 7.26).
use Rattle.std.specs.Prelude.{◌≡◌, ℕ, List, true, false, Some, codes}
use Rattle.dwz_def_reading.specs.declared.elf.Header.{Header}
use Rattle.dwz_def_reading.specs.ElfHeaders.{headers_in, is_there}
use Rattle.dwz_def_reading.specs.ElfNames.{name_at, name_table}
use Rattle.dwz_def_reading.specs.Lists.{Each, In}
use Rattle.dwz_def_reading.specs.OffsetTables.{AreSlots}
use Rattle.dwz_def_reading.specs.LineSection.{UsesStrp}
use Rattle.dwz_def_reading.specs.Documents.{DwUnit}
use Rattle.dwz_def_reading.specs.Files.{section_of, sources_of}
use Rattle.dwz_def_reading.specs.Meanings.{text_sections_of}
use Rattle.dwz_def_encoding.specs.Pruned.{UnitStays}

-- a section with that name has a content in the file
pub record HasSection (bytes name : List ℕ) : Type 0 where
  pub header : Header
  pub there : In header (headers_in bytes)
  pub named : name_at (name_table bytes) header.name ≡ Some name
  pub content : is_there header ≡ true

-- The file, with these units, has no `.debug_macro`. Its `.debug_str_offsets` is a row of contributions without gaps, and its `.debug_line`
-- one of line tables none of whose formats has the form strp; either may be missing. Each value by a slot that its units have reads one of
-- those slots, and no line table that they read has a format with the form strp.
pub record IsPrunable {P : Type 0} (bytes : List ℕ) (some : List (DwUnit P)) : Type 0 where
  pub no_macro : HasSection bytes (codes ".debug_macro") → ⊥
  pub places : List ℕ
  pub slots : AreSlots (section_of bytes 5) places
  pub tables : UsesStrp (text_sections_of (sources_of bytes)) (section_of bytes 6) (Some false)
  pub units : Each (UnitStays (text_sections_of (sources_of bytes)) (section_of bytes 6) places) some

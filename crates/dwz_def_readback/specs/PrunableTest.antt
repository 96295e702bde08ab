-- Inner: the test whether a file is prunable, part by part. That it tells is the law `prunable_laws`.
use Rattle.std.specs.Prelude.{ℕ, zero, suc, ◌+◌, ◌==◌, ◌&&◌, ◌||◌, not, Bool, true, false, List, length, drop, Some, Result, Ok, Err, codes}
use Rattle.std.specs.List.{list_all, list_any}
use Rattle.std.specs.Option.{option_eq, option_map_or}
use Rattle.std.specs.Str.{bytes_eq}
use Rattle.dwz_def_reading.specs.Fault.{Fault}
use Rattle.dwz_def_reading.specs.ElfHeaders.{headers_in, is_there}
use Rattle.dwz_def_reading.specs.ElfNames.{name_at, name_table}
use Rattle.dwz_def_reading.specs.Classes.{Class, OfConstant, OfTextBySlot, class_of, names_file}
use Rattle.dwz_def_reading.specs.Documents.{Attr, DwUnit, Entries}
use Rattle.dwz_def_reading.specs.Files.{section_of, sources_of}
use Rattle.dwz_def_reading.specs.LineTables.{FileTable, TextSections, file_table_at, line_length}
use Rattle.dwz_def_reading.specs.Rows.{has}
use Rattle.dwz_def_reading.specs.Meanings.{text_sections_of}
use Rattle.dwz_def_reading.specs.OffsetTables.{slots_in}
use Rattle.dwz_def_reading.specs.Spelling.{reach}
use Rattle.dwz_def_reading.specs.Texts.{slot_place}
use Rattle.dwz_def_reading.specs.Trees.{End, Entry}
use Rattle.dwz_def_encoding.specs.Bases.{Bases, bases_in}

-- whether a section with that name has a content in the file
abbrev pub has_content : (bytes name : List ℕ) → Bool
has_content bytes name =
    list_any (λ h. is_there h && option_eq bytes_eq (name_at (name_table bytes) h.name) (Some name)) (headers_in bytes)

-- ---- line tables

-- whether a line table was read, and has a format with the form strp; or was read, and has none
abbrev pub table_has_strp : Result FileTable Fault → Bool
table_has_strp (Ok table) = table.has_strp
table_has_strp (Err f) = false

abbrev pub table_lacks_strp : Result FileTable Fault → Bool
table_lacks_strp (Ok table) = not table.has_strp
table_lacks_strp (Err f) = false

-- whether from a place on the section is line tables without gaps, no more of them than that, and none of them has a format with that form
unfoldable pub tables_lack_strp : ℕ → TextSections → List ℕ → ℕ → Bool
tables_lack_strp zero texts line place = place == length line
tables_lack_strp (suc most) texts line place =
    place == length line
    || (table_lacks_strp (file_table_at texts line place)
    && tables_lack_strp most texts line (place + (4 + line_length (drop place line))))

-- ---- values

-- whether a value of a class stays, in a unit of which that is known, with its name and number
abbrev pub stays_of : Class → TextSections → (line places : List ℕ) → Bases → (name number : ℕ) → Bool
stays_of OfTextBySlot texts line places own name number = option_map_or (λ base. has (slot_place base number) places) own.slots true
stays_of OfConstant texts line places own name number =
    not (names_file name) || option_map_or (λ place. not (table_has_strp (file_table_at texts line place))) own.line true
stays_of _ texts line places own name number = true

abbrev pub attr_stays : {K : Type 0} → TextSections → (line places : List ℕ) → Bases → Attr K → Bool
attr_stays texts line places own a = stays_of (class_of a.form) texts line places own a.name (reach a.raw)

-- whether each attribute passes
abbrev pub each_attr : {K : Type 0} → (Attr K → Bool) → Entries K → Bool
each_attr p End = true
each_attr p (Entry e children next) = list_all p e.attrs && (each_attr p children && each_attr p next)

abbrev pub unit_stays : {K : Type 0} → TextSections → (line places : List ℕ) → DwUnit K → Bool
unit_stays texts line places u =
    list_all (attr_stays texts line places (bases_in u)) u.root.attrs
    && each_attr (attr_stays texts line places (bases_in u)) u.below

-- ---- files

-- whether a file with these units is prunable
abbrev pub is_prunable : {K : Type 0} → List ℕ → List (DwUnit K) → Bool
is_prunable bytes units =
    let texts = text_sections_of (sources_of bytes) in let line = section_of bytes 6 in
    not (has_content bytes (codes ".debug_macro"))
    && (tables_lack_strp (length line) texts line 0
    && option_map_or (λ places. list_all (unit_stays texts line places) units) (slots_in (section_of bytes 5)) false)

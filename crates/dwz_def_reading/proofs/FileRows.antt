-- What small files say, by the definitions, and their first faults.
use Rattle.dwz_def_reading.specs.ElfReading.{elf_fault_for, field_fault_for, unkept_fault_for}
use Rattle.std.proofs.Common.{◌≡◌, ℕ, pos, ◌+◌, List, [], ◌∷◌, ◌++◌, length, None, Result, Ok, Err, refl, replicate}
use Rattle.std.specs.Prelude.{codes}
use Rattle.dwz_model.specs.declared.fault.Reason.{Reason}
use Rattle.dwz_model.specs.declared.fault.Reason.TheVariants.{BadReference, FileSize, Machine, NotElf, TooMany, Truncated}
use Rattle.dwz_model.specs.declared.fault.Refusal.{Refusal}
use Rattle.dwz_bytes.specs.Reading.{groups_at, uleb_at}
use Rattle.dwz_bytes.specs.Spelling.{le_bytes}
use Rattle.dwz_codes.specs.Forms.{form_rows}
use Rattle.dwz_def_reading.specs.Abbrevs.{declaration_at, pair_at, table_at}
use Rattle.dwz_def_reading.specs.Documents.{Compile, Doc, Num, Text, only, ref}
use Rattle.dwz_def_reading.specs.ElfHeaders.{headers_from, number_at}
use Rattle.dwz_def_reading.specs.ElfNames.{section_name_in}
use Rattle.dwz_def_reading.specs.ElfReading.{elf_fault, field_fault, first_in, first_other, header_fault, identification_fault, missing_fault, names_fault, section_range, unkept_fault}
use Rattle.dwz_def_reading.specs.Entries.{attrs_at, front_at}
use Rattle.dwz_def_reading.specs.Files.{Limits, file_meaning_by, files_meaning, longest_file, longest_files, most_entries, no_files_before, section_of, unit_places}
use Rattle.dwz_def_reading.specs.Items.{items_at, items_from}
use Rattle.dwz_def_reading.specs.Meanings.{all_places, first_raw, has, places_in, without_siblings}
use Rattle.dwz_def_reading.specs.Classes.{class_in, class_rows}
use Rattle.dwz_def_reading.specs.Meant.{attrs_meaning, entries_meaning, meaning, units_meaning}
use Rattle.dwz_def_reading.specs.NamedLists.{list_of_attr, lists_of_attrs, lists_of_entries, lists_of_units}
use Rattle.dwz_def_reading.specs.Sequences.{all_at, all_from}
use Rattle.dwz_def_reading.specs.Shared.{least_place, none_shared, operands_in_lists}
use Rattle.dwz_def_reading.specs.Texts.{text_in}
use Rattle.dwz_def_reading.specs.Trees.{End, Entry, forest_at, siblings_at}
use Rattle.dwz_def_reading.specs.Units.{entries_in, header_reason, tree_at, unit_at, units_at, units_from, zero_count}
use Rattle.dwz_def_reading.specs.Values.{shaped_at}

-- ---- files of three sections: `.debug_info` and `.debug_abbrev` from byte 64 on, then the names, then four section headers

abbrev zeros : ℕ → List ℕ
zeros n = replicate n 0

abbrev names : List ℕ
names = 0 ∷ codes ".debug_info" ++ 0 ∷ codes ".debug_abbrev" ++ 0 ∷ codes ".shstrtab" ++ 0 ∷ []

section_header : ℕ → ℕ → ℕ → ℕ → List ℕ
unfolding le_bytes
section_header name kind offset size =
    le_bytes 4 name ++ le_bytes 4 kind ++ zeros 16 ++ le_bytes 8 offset ++ le_bytes 8 size ++ zeros 8 ++ le_bytes 8 1 ++ zeros 8

file_of : ℕ → List ℕ → List ℕ → List ℕ
unfolding le_bytes section_header
file_of machine info abbrevs =
    let ends = 64 + length info + length abbrevs + length names in
    (0x7f ∷ 0x45 ∷ 0x4c ∷ 0x46 ∷ 2 ∷ 1 ∷ 1 ∷ zeros 9)
    ++ (le_bytes 2 3 ++ le_bytes 2 machine ++ le_bytes 4 1 ++ zeros 16 ++ le_bytes 8 ends ++ zeros 4)
    ++ (le_bytes 2 64 ++ zeros 4 ++ le_bytes 2 64 ++ le_bytes 2 4 ++ le_bytes 2 3)
    ++ info ++ abbrevs ++ names
    ++ zeros 64
    ++ section_header 1 1 64 (length info)
    ++ section_header 13 1 (64 + length info) (length abbrevs)
    ++ section_header 27 3 (64 + length info + length abbrevs) (length names)

-- a unit with a base type `int`, and a constant whose type is the entry at that offset of the unit
abbrev table : List ℕ
table =
    0x01 ∷ 0x11 ∷ 0x01 ∷ 0x00 ∷ 0x00
    ∷ 0x02 ∷ 0x24 ∷ 0x00 ∷ 0x03 ∷ 0x08 ∷ 0x0b ∷ 0x0b ∷ 0x00 ∷ 0x00
    ∷ 0x03 ∷ 0x27 ∷ 0x00 ∷ 0x49 ∷ 0x11 ∷ 0x00 ∷ 0x00
    ∷ 0x00 ∷ []

abbrev a_unit : ℕ → List ℕ
a_unit type = 0x12 ∷ 0 ∷ 0 ∷ 0 ∷ 5 ∷ 0 ∷ 1 ∷ 8 ∷ 0 ∷ 0 ∷ 0 ∷ 0 ∷ 1 ∷ 2 ∷ 0x69 ∷ 0x6e ∷ 0x74 ∷ 0 ∷ 4 ∷ 3 ∷ type ∷ 0 ∷ []

abbrev a_file : ℕ → ℕ → List ℕ
a_file machine type = file_of machine (a_unit type) table

-- what it says
abbrev doc_said : ℕ → Doc ℕ
doc_said machine = record {
  machine = machine;
  units = record {
    at = 0;
    kind = Compile;
    root = record { at = 0x0c; tag = 0x11; attrs = [] };
    below = Entry (record {
      at = 0x0d;
      tag = 0x24;
      attrs = record { name = 0x03; form = 0x08; raw = pos 0; value = only (Text (codes "int")) }
          ∷ record { name = 0x0b; form = 0x0b; raw = pos 4; value = only (Num 0 (pos 4)) } ∷ [];
    }) End
        (Entry (record { at = 0x13; tag = 0x27; attrs = record { name = 0x49; form = 0x11; raw = pos 0x0d; value = ref 0x0d } ∷ [] }) End End);
  } ∷ [];
}

-- what files say behind others; whatever unfolds this unfolds all that is read with
said_behind : Limits → List (List ℕ) → Result (List (Doc ℕ)) Refusal
unfolding files_meaning file_meaning_by section_of longest_file longest_files most_entries headers_from number_at section_name_in elf_fault_for field_fault_for first_in first_other header_fault
    identification_fault
    missing_fault names_fault section_range unkept_fault_for units_at units_from unit_at entries_in header_reason tree_at zero_count front_at attrs_at siblings_at forest_at table_at declaration_at pair_at
    items_at items_from uleb_at groups_at shaped_at text_in form_rows units_meaning entries_meaning attrs_meaning meaning class_in class_rows without_siblings all_places places_in has first_raw
    file_of unit_places all_at all_from none_shared least_place operands_in_lists lists_of_units lists_of_entries lists_of_attrs list_of_attr lib.Count.ones
said_behind l files = files_meaning l 0 files

abbrev refused : ℕ → ℕ → ℕ → Reason → Result (List (Doc ℕ)) Refusal
refused file section at reason = Err (record { file = file; section = section; at = at; reason = reason })

no_file : said_behind no_files_before [] ≡ Ok []
unfolding said_behind
no_file = refl

one_file : said_behind no_files_before (a_file 62 0x0d ∷ []) ≡ Ok (doc_said 62 ∷ [])
unfolding said_behind
one_file = refl

two_files : said_behind no_files_before (a_file 62 0x0d ∷ a_file 62 0x0d ∷ []) ≡ Ok (doc_said 62 ∷ doc_said 62 ∷ [])
unfolding said_behind
two_files = refl

-- the second file is for another machine than the first; one alone may be for any
other_machine : said_behind no_files_before (a_file 62 0x0d ∷ a_file 183 0x0d ∷ []) ≡ refused 1 0 18 Machine
unfolding said_behind
other_machine = refl

any_machine : said_behind no_files_before (a_file 183 0x0d ∷ []) ≡ Ok (doc_said 183 ∷ [])
unfolding said_behind
any_machine = refl

-- the byte behind the beginning of `int` begins no entry; a fault of the first file comes before one of the second
bad_type : said_behind no_files_before (a_file 62 0x0d ∷ a_file 62 0x0e ∷ []) ≡ refused 1 1 0x14 BadReference
unfolding said_behind
bad_type = refl

first_file_first : said_behind no_files_before (a_file 62 0x0e ∷ a_file 183 0x0d ∷ []) ≡ refused 0 1 0x14 BadReference
unfolding said_behind
first_file_first = refl

-- a fault of units comes before one of meanings, also of an earlier unit; and the machine before both
units_first : said_behind no_files_before (file_of 62 (a_unit 0x0e ++ 1 ∷ []) table ∷ []) ≡ refused 0 1 0x16 Truncated
unfolding said_behind
units_first = refl

machine_first : said_behind no_files_before (a_file 62 0x0d ∷ file_of 183 (a_unit 0x0e ++ 1 ∷ []) table ∷ []) ≡ refused 1 0 18 Machine
unfolding said_behind
machine_first = refl

-- each file has so many bytes and three entries
length_of_file : length (a_file 62 0x0d) ≡ 401
unfolding said_behind
length_of_file = refl

-- what is left for the files is just enough for two, or a byte or an entry too little
abbrev left : ℕ → ℕ → Limits
left bytes entries = record { bytes = bytes; entries = entries; machine = None }

just_enough : said_behind (left 802 6) (a_file 62 0x0d ∷ a_file 62 0x0d ∷ []) ≡ Ok (doc_said 62 ∷ doc_said 62 ∷ [])
unfolding said_behind
just_enough = refl

byte_too_many : said_behind (left 801 6) (a_file 62 0x0d ∷ a_file 62 0x0d ∷ []) ≡ refused 1 0 0 FileSize
unfolding said_behind
byte_too_many = refl

entry_too_many : said_behind (left 802 5) (a_file 62 0x0d ∷ a_file 62 0x0d ∷ []) ≡ refused 1 1 0x13 TooMany
unfolding said_behind
entry_too_many = refl

-- the size comes before all else
size_first : said_behind (left 400 0) (a_file 62 0x0e ∷ []) ≡ refused 0 0 0 FileSize
unfolding said_behind
size_first = refl

not_elf : said_behind no_files_before ((0x7f ∷ 0x45 ∷ []) ∷ []) ≡ refused 0 0 2 NotElf
unfolding said_behind
not_elf = refl

-- The two files of a demonstration: units that declare the same types, which refer to each other, and the same named constant. Each
-- unit also has a constant without a name, whose value no other unit of the two files has.
use Rattle.std.specs.Prelude.{ℕ, ◌+◌, List, [], ◌∷◌, ◌++◌, length, Bool, true, false, codes, pos, replicate}
use Rattle.std.specs.List.{flat_map, range_with_len}
use Rattle.dwz_model.specs.declared.place.Pair.{Pair}
use Rattle.dwz_bytes.specs.Spelling.{le_bytes}
use Rattle.dwz_def_reading.specs.Abbrevs.{Declaration, table_bytes}
use Rattle.dwz_def_reading.specs.PlainFile.{PlainSection, plain_file, plain_section}

-- ---- the abbreviation table

-- an attribute, by its name and form
abbrev pub attribute : ℕ → ℕ → Pair
attribute name form = record { name = name; form = form; constant = pos 0 }

-- DW_AT_language as data2, DW_AT_name as string, DW_AT_byte_size as data1
abbrev pub language_attr : Pair
language_attr = attribute 0x13 0x05

abbrev pub name : Pair
name = attribute 0x03 0x08

abbrev pub byte_size : Pair
byte_size = attribute 0x0b 0x0b

-- DW_AT_encoding as data1, DW_AT_data_member_location as data1
abbrev pub encoding : Pair
encoding = attribute 0x3e 0x0b

abbrev pub location : Pair
location = attribute 0x38 0x0b

-- DW_AT_type as ref4, DW_AT_const_value as data4
abbrev pub type_attr : Pair
type_attr = attribute 0x49 0x13

abbrev pub value : Pair
value = attribute 0x1c 0x06

-- a declaration, by its code, the tag, whether there are children, and the attributes
abbrev pub declares : ℕ → ℕ → Bool → List Pair → Declaration
declares code tag children pairs = record { code = code; tag = tag; children = children; pairs = pairs }

-- DW_TAG_compile_unit, DW_TAG_base_type, DW_TAG_structure_type, DW_TAG_member, DW_TAG_pointer_type, and DW_TAG_constant twice
abbrev pub demo_table : List Declaration
demo_table =
    declares 1 0x11 true (language_attr ∷ [])
    ∷ declares 2 0x24 false (name ∷ byte_size ∷ encoding ∷ [])
    ∷ declares 3 0x13 true (name ∷ byte_size ∷ [])
    ∷ declares 4 0x0d false (name ∷ type_attr ∷ location ∷ [])
    ∷ declares 5 0x0f false (byte_size ∷ type_attr ∷ [])
    ∷ declares 6 0x27 false (type_attr ∷ value ∷ [])
    ∷ declares 7 0x27 false (name ∷ type_attr ∷ value ∷ [])
    ∷ []

-- ---- a unit

-- a value of form string
abbrev pub text : List ℕ → List ℕ
text bytes = bytes ++ 0 ∷ []

-- What stands behind the header, in order: each entry by its code and its values, and a zero byte behind the last child. A reference
-- is the place of an entry in bytes from the first of the unit: the base type stands at 0f, the structure at 16, the pointer at 34.
abbrev pub unit_entries : ℕ → ℕ → List (List ℕ)
unit_entries own shared =
    (1 ∷ le_bytes 2 0x000c)
    ∷ (2 ∷ (text (codes "int") ++ 4 ∷ 5 ∷ []))
    ∷ (3 ∷ (text (codes "node") ++ 16 ∷ []))
    ∷ (4 ∷ (text (codes "next") ++ (le_bytes 4 0x34 ++ 0 ∷ [])))
    ∷ (4 ∷ (text (codes "item") ++ (le_bytes 4 0x0f ++ 8 ∷ [])))
    ∷ (0 ∷ [])
    ∷ (5 ∷ 8 ∷ le_bytes 4 0x16)
    ∷ (6 ∷ (le_bytes 4 0x0f ++ le_bytes 4 own))
    ∷ (7 ∷ (text (replicate 31 120) ++ (le_bytes 4 0x0f ++ le_bytes 4 shared)))
    ∷ (0 ∷ [])
    ∷ []

-- what follows the length: version 5, DW_UT_compile, addresses of 8 bytes, the table at 0, and the entries
abbrev pub unit_behind_length : ℕ → ℕ → List ℕ
unit_behind_length own shared = le_bytes 2 5 ++ (1 ∷ 8 ∷ (le_bytes 4 0 ++ flat_map (λ entry. entry) (unit_entries own shared)))

-- a unit, by the values of its constants: that without a name, and the named one
unfoldable pub demo_unit_bytes : ℕ → ℕ → List ℕ
demo_unit_bytes own shared = let rest = unit_behind_length own shared in le_bytes 4 (length rest) ++ rest

-- ---- the files

-- the units of a file; the named constant counts them from 0, and the other from that number on
abbrev pub demo_info : ℕ → ℕ → List ℕ
demo_info n first = flat_map (λ u. demo_unit_bytes (first + u) u) (range_with_len 0 n)

abbrev pub demo_sections : ℕ → ℕ → List PlainSection
demo_sections n first =
    plain_section (codes ".debug_info") (demo_info n first) ∷ plain_section (codes ".debug_abbrev") (table_bytes demo_table) ∷ []

-- a file for x86-64 (EM_X86_64)
abbrev pub demo_file : ℕ → ℕ → List ℕ
demo_file n first = plain_file 62 0 (demo_sections n first)

-- the two files of n units each: the second counts on where the first ends
abbrev pub demo_files : ℕ → List (List ℕ)
demo_files n = demo_file n 0 ∷ demo_file n n ∷ []

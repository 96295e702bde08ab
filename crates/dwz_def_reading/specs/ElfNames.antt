-- The names of sections: which section is which (DWARF 5, 7.5 and appendix G).
use Rattle.std.specs.Prelude.{[], ◌*◌, ◌+◌, ◌==◌, ◌∷◌, List, None, Option, Some, ℕ, codes, drop, false, if◌then◌else◌, map, nat_eq, true}
use Rattle.std.specs.Option.{option_map}
use Rattle.std.specs.List.{list_any, starts_with}
use Rattle.std.specs.Str.{bytes_eq}
use Rattle.dwz_def_reading.specs.declared.elf.Header.{Header}
use Rattle.dwz_def_reading.specs.declared.elf.Name.{Name}
use Rattle.dwz_def_reading.specs.declared.elf.Section.{Section}
use Rattle.dwz_def_reading.specs.ElfHeaders.{content, file_header, header_at, headers_in}

-- the bytes before the first zero byte
unfoldable pub section_name_in : List ℕ → Option (List ℕ)
section_name_in [] = None
section_name_in (b ∷ bs) = if b == 0 then Some [] else option_map (λ name. b ∷ name) (section_name_in bs)

-- the name at an offset of the name table
abbrev pub name_at : List ℕ → ℕ → Option (List ℕ)
name_at table at = section_name_in (drop at table)

-- the code of a section by its name, of those that this tool reads or writes
abbrev pub code_of : List ℕ → ℕ
code_of name =
    if bytes_eq name (codes ".debug_info") then 1 else
    (if bytes_eq name (codes ".debug_abbrev") then 2 else
    (if bytes_eq name (codes ".debug_str") then 3 else
    (if bytes_eq name (codes ".debug_line_str") then 4 else
    (if bytes_eq name (codes ".debug_str_offsets") then 5 else
    (if bytes_eq name (codes ".debug_line") then 6 else
    (if bytes_eq name (codes ".debug_loclists") then 7 else
    (if bytes_eq name (codes ".debug_aranges") then 8 else
    (if bytes_eq name (codes ".debug_sup") then 9 else 0))))))))

-- Names of sections that can't be kept: an index would name moved places, and so would a section that another file refers
-- to or that refers to another file.
abbrev pub index_names : List (List ℕ)
index_names =
    codes ".debug_sup" ∷ codes ".gnu_debugaltlink" ∷ codes ".debug_names" ∷ codes ".gdb_index"
    ∷ codes ".debug_pubnames" ∷ codes ".debug_pubtypes" ∷ codes ".debug_gnu_pubnames" ∷ codes ".debug_gnu_pubtypes"
    ∷ codes ".debug_types" ∷ codes ".debug_cu_index" ∷ codes ".debug_tu_index" ∷ []

-- what a name says; one that doesn't end says nothing
abbrev pub known_name : Option (List ℕ) → Name
known_name None = record { ends = false; code = 0; is_debug = false; is_index = false }
known_name (Some name) = record {
  ends = true;
  code = code_of name;
  is_debug = starts_with nat_eq name (codes ".debug_");
  is_index = list_any (bytes_eq name) index_names;
}

-- a section header, and what the name says that it refers to
abbrev pub section_named : List ℕ → Header → Section
section_named table h = record { header = h; name = known_name (name_at table h.name) }

-- the header of the name table
abbrev pub names_header : List ℕ → Header
names_header bytes = let file = file_header bytes in header_at bytes (file.headers_at + 64 * file.names)

-- the name table
abbrev pub name_table : List ℕ → List ℕ
name_table bytes = content bytes (names_header bytes)

-- the sections of a file, by index
abbrev pub sections_in : List ℕ → List Section
sections_in bytes = map (section_named (name_table bytes)) (headers_in bytes)

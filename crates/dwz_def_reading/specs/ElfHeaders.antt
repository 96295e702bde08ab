-- The headers of an ELF file (ELF-64 Object File Format, "ELF Header" and "Sections").
use Rattle.std.specs.Prelude.{ℕ, zero, suc, ◌+◌, ◌*◌, List, [], ◌∷◌, take, drop, Bool, ◌==◌, ◌&&◌, ◌||◌, not, bit_and}
use Rattle.dwz_bytes.specs.Spelling.{le_value}
use Rattle.dwz_def_reading.specs.declared.elf.FileHeader.{FileHeader}
use Rattle.dwz_def_reading.specs.declared.elf.Header.{Header}

-- the little-endian number of k bytes at a place
unfoldable pub number_at : List ℕ → ℕ → ℕ → ℕ
number_at bytes at k = le_value (take k (drop at bytes))

-- the fields of the file header
abbrev pub file_header : List ℕ → FileHeader
file_header bytes = record {
  kind = number_at bytes 16 2;
  machine = number_at bytes 18 2;
  program_headers_at = number_at bytes 32 8;
  headers_at = number_at bytes 40 8;
  flags = number_at bytes 48 4;
  program_header_size = number_at bytes 54 2;
  program_headers = number_at bytes 56 2;
  header_size = number_at bytes 58 2;
  headers = number_at bytes 60 2;
  names = number_at bytes 62 2;
}

-- the fields of the section header at a place
abbrev pub header_at : List ℕ → ℕ → Header
header_at bytes at = record {
  at = at;
  name = number_at bytes at 4;
  kind = number_at bytes (at + 4) 4;
  flags = number_at bytes (at + 8) 8;
  offset = number_at bytes (at + 24) 8;
  size = number_at bytes (at + 32) 8;
  info = number_at bytes (at + 44) 4;
  align = number_at bytes (at + 48) 8;
}

-- n section headers of 64 bytes each, from a place on
unfoldable pub headers_from : List ℕ → ℕ → ℕ → List Header
headers_from bytes at zero = []
headers_from bytes at (suc n) = header_at bytes at ∷ headers_from bytes (at + 64) n

-- the section headers of a file
abbrev pub headers_in : List ℕ → List Header
headers_in bytes = let file = file_header bytes in headers_from bytes file.headers_at file.headers

-- Whether a section has a content in the file: one of type SHT_NULL (0) or SHT_NOBITS (8) has none, and counts as not there.
abbrev pub is_there : Header → Bool
is_there h = not (h.kind == 0) && not (h.kind == 8)

-- where a section ends
abbrev pub end_of : Header → ℕ
end_of h = h.offset + h.size

-- a section's content
abbrev pub content : List ℕ → Header → List ℕ
content bytes h = take h.size (drop h.offset bytes)

-- whether a section is loaded with the program: SHF_ALLOC
abbrev pub is_loaded : Header → Bool
is_loaded h = not (bit_and h.flags 2 == 0)

-- whether a section is compressed: SHF_COMPRESSED
abbrev pub is_compressed : Header → Bool
is_compressed h = not (bit_and h.flags 0x800 == 0)

-- whether a section holds relocations: SHT_RELA (4) or SHT_REL (9)
abbrev pub has_relocations : Header → Bool
has_relocations h = h.kind == 4 || h.kind == 9

-- where the section header table ends, and the program header table
abbrev pub headers_end : FileHeader → ℕ
headers_end file = file.headers_at + 64 * file.headers

abbrev pub program_headers_end : FileHeader → ℕ
program_headers_end file = file.program_headers_at + file.program_header_size * file.program_headers

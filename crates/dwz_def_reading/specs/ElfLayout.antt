-- An ELF file made from another: the loaded bytes stay where they are, and the other sections are written again behind them,
-- some with a new content.
use Rattle.std.specs.Prelude.{ℕ, ◌+◌, ◌-◌, ◌*◌, ◌^◌, max, List, [], ◌∷◌, ◌++◌, length, take, drop, replicate, Bool, ◌==◌, ◌&&◌, ◌||◌, not}
use Rattle.std.specs.Prelude.{nat_lt, if◌then◌else◌, Option, Some, None, is_some, slice_get, codes}
use Rattle.std.specs.Option.{unwrap_or}
use Rattle.std.specs.Int.{next_multiple_of}
use Rattle.std.specs.List.Sorted.{IsPermutation, IsSorted}
use Rattle.std.specs.Ordering.{nat_cmp, ordering_then}
use Rattle.dwz_model.specs.declared.fault.Fault.{Fault}
use Rattle.dwz_model.specs.declared.fault.Reason.TheVariants.{Layout}
use Rattle.dwz_bytes.specs.Spelling.{le_bytes}
use Rattle.dwz_def_reading.specs.declared.elf.Header.{Header}
use Rattle.dwz_def_reading.specs.declared.elf.Moved.{Moved}
use Rattle.dwz_def_reading.specs.declared.elf.NewContent.{NewContent}
use Rattle.dwz_def_reading.specs.declared.elf.Section.{Section}
use Rattle.dwz_def_reading.specs.ElfHeaders.{content, end_of, is_loaded, is_there, program_headers_end}
use Rattle.dwz_def_reading.specs.ElfReading.{ElfView, fault_if, first_in}

-- What is new: the content of some sections, of which the first for a code holds, and that of `.debug_sup` where it is added.
pub record Changes : Type 0 where
  pub new : List NewContent
  pub sup : Option (List ℕ)

-- the first content for a code
abbrev pub content_for : List NewContent → ℕ → Option (List ℕ)
content_for [] code = None
content_for (n ∷ new) code = if n.code == code then Some n.bytes else content_for new code

-- ---- what stays

-- where the last section that is loaded from the file ends
abbrev pub loaded_end : List Section → ℕ
loaded_end [] = 0
loaded_end (s ∷ sections) = max (if is_there s.header && is_loaded s.header then end_of s.header else 0) (loaded_end sections)

-- Where the kept bytes end: they hold the file header, the program header table and each section that is loaded.
unfoldable pub keep_end : ElfView → ℕ
keep_end e = max (max 64 (if e.file.program_headers == 0 then 0 else program_headers_end e.file)) (loaded_end e.sections)

-- the new content of a section, if it has one
abbrev pub replacement : Changes → Section → Option (List ℕ)
replacement changes s = if s.name.code == 0 then None else content_for changes.new s.name.code

-- whether a section gets another content; the name table gets one more name where a section is added
abbrev pub is_changed : ElfView → Changes → ℕ → Section → Bool
is_changed e changes index s = is_some (replacement changes s) || (is_some changes.sup && index == e.file.names)

-- whether a section begins among the kept bytes, and gets another content or ends behind them
abbrev pub is_inside : ElfView → Changes → ℕ → Section → Bool
is_inside e changes index s =
    is_there s.header && (nat_lt s.header.offset (keep_end e) && (is_changed e changes index s || nat_lt (keep_end e) (end_of s.header)))

unfoldable pub inside_fault : ElfView → Changes → List Section → Section → Option Fault
inside_fault e changes before s = fault_if (is_inside e changes (length before) s) Layout s.header.at

-- the first section that can't be laid out around the kept bytes
unfoldable pub layout_fault : ElfView → Changes → Option Fault
layout_fault e changes = first_in (inside_fault e changes) [] e.sections

-- ---- which sections are written again, and in which order

abbrev pub is_moving : ℕ → Header → Bool
is_moving keep h = is_there h && (not (is_loaded h) && not (nat_lt h.offset keep))

-- the old offset and the index of each section that is written again; the first of these has that index
unfoldable pub moving : ℕ → ℕ → List Section → List (ℕ × ℕ)
moving keep index [] = []
moving keep index (s ∷ sections) =
    if is_moving keep s.header then (s.header.offset, index) ∷ moving keep (index + 1) sections else moving keep (index + 1) sections

-- they stand in order of their old offset, and of their index where that is the same
pub record IsOrder (e : ElfView) (order : List (ℕ × ℕ)) : Type 0 where
  pub same : IsPermutation (moving (keep_end e) 0 e.sections) order
  pub ascends : IsSorted (λ a b. ordering_then (nat_cmp a.0 b.0) (nat_cmp a.1 b.1)) order

-- ---- the new contents

-- the name of `.debug_sup`, which stands at the end of the name table where the section is added
abbrev pub added_name : Option (List ℕ) → List ℕ
added_name None = []
added_name (Some sup) = codes ".debug_sup" ++ 0 ∷ []

abbrev pub new_content : ElfView → Changes → List ℕ → ℕ → Option Section → List ℕ
new_content e changes input index None = []
new_content e changes input index (Some s) =
    unwrap_or (replacement changes s) (content input s.header ++ (if index == e.file.names then added_name changes.sup else []))

-- the content in the new file of the section with an index
unfoldable pub content_at : ElfView → Changes → List ℕ → ℕ → List ℕ
content_at e changes input index = new_content e changes input index (slice_get e.sections index)

abbrev pub align_of : Option Section → ℕ
align_of None = 1
align_of (Some s) = max 1 s.header.align

-- the alignment of the section with an index, where 0 counts as 1
unfoldable pub align_at : ElfView → ℕ → ℕ
align_at e index = align_of (slice_get e.sections index)

-- ---- the places

-- the sections in order from a place on, each at the next multiple of its alignment
unfoldable pub placed_from : ElfView → (ℕ → List ℕ) → ℕ → List (ℕ × ℕ) → List Moved
placed_from e contents start [] = []
placed_from e contents start (key ∷ order) =
    let at = next_multiple_of start (align_at e key.1) in
    let size = length (contents key.1) in
    record { index = key.1; at = at; size = size } ∷ placed_from e contents (at + size) order

-- where they end
abbrev pub placed_end : ℕ → List Moved → ℕ
placed_end start [] = start
placed_end start (m ∷ placed) = placed_end (m.at + m.size) placed

-- where the section of an index is
abbrev pub moved_in : List Moved → ℕ → Option Moved
moved_in [] index = None
moved_in (m ∷ placed) index = if m.index == index then Some m else moved_in placed index

-- what is added behind them
abbrev pub added_bytes : Changes → List ℕ
added_bytes changes = unwrap_or changes.sup []

-- where the section header table is, and how many headers it has
abbrev pub new_headers_at : Changes → ℕ → ℕ
new_headers_at changes end = next_multiple_of (end + length (added_bytes changes)) 8

abbrev pub new_count : ElfView → Changes → ℕ
new_count e changes = e.file.headers + (if is_some changes.sup then 1 else 0)

-- the length of the file whose sections end there
abbrev pub length_with_headers : ElfView → Changes → ℕ → ℕ
length_with_headers e changes end = new_headers_at changes end + 64 * new_count e changes

-- a file of so many bytes is too large
abbrev pub too_large : ℕ
too_large = 2 ^ 32 - 16

-- ---- the bytes

-- bytes written over those at a place
abbrev pub over : ℕ → List ℕ → List ℕ → List ℕ
over at new bytes = take at bytes ++ (new ++ drop (at + length new) bytes)

-- the bytes below a place, and zero bytes where the file has ended
abbrev pub kept_bytes : ℕ → List ℕ → List ℕ
kept_bytes keep input = take keep input ++ replicate (keep - length input) 0

-- the kept bytes, with the place of the section header table (e_shoff) and how many headers it has (e_shnum)
abbrev pub new_front : ℕ → ℕ → ℕ → List ℕ → List ℕ
new_front keep headers_at count input = over 60 (le_bytes 2 count) (over 40 (le_bytes 8 headers_at) (kept_bytes keep input))

-- the sections from a place on, with zero bytes between
unfoldable pub spread : (ℕ → List ℕ) → ℕ → List Moved → List ℕ
spread contents start [] = []
spread contents start (m ∷ placed) =
    replicate (m.at - start) 0 ++ (contents m.index ++ spread contents (m.at + m.size) placed)

-- a section header, with the new offset (sh_offset) and size (sh_size) where the section is written again
abbrev pub moved_header : List ℕ → Option Moved → List ℕ
moved_header old None = old
moved_header old (Some m) = over 24 (le_bytes 8 m.at ++ le_bytes 8 m.size) old

-- the section headers, of which the first has that index
unfoldable pub new_headers : List ℕ → List Moved → ℕ → List Section → List ℕ
new_headers input placed index [] = []
new_headers input placed index (s ∷ sections) =
    moved_header (take 64 (drop s.header.at input)) (moved_in placed index) ++ new_headers input placed (index + 1) sections

-- where the name table ends, and so the added name begins
abbrev pub names_size : Option Section → ℕ
names_size None = 0
names_size (Some s) = s.header.size

-- numbers one after another, each with its width
unfoldable pub numbers : List (ℕ × ℕ) → List ℕ
numbers [] = []
numbers (field ∷ fields) = le_bytes field.0 field.1 ++ numbers fields

-- The header of the added section: sh_name, sh_type (SHT_PROGBITS), sh_flags, sh_addr, sh_offset, sh_size, sh_link, sh_info,
-- sh_addralign, sh_entsize.
abbrev pub sup_fields : ℕ → ℕ → ℕ → List (ℕ × ℕ)
sup_fields name at size =
    (4, name) ∷ (4, 1) ∷ (8, 0) ∷ (8, 0) ∷ (8, at) ∷ (8, size) ∷ (4, 0) ∷ (4, 0) ∷ (8, 1) ∷ (8, 0) ∷ []

unfoldable pub sup_header : ElfView → ℕ → Option (List ℕ) → List ℕ
sup_header e at None = []
sup_header e at (Some sup) = numbers (sup_fields (names_size (slice_get e.sections e.file.names)) at (length sup))

-- the file, by where its sections are
abbrev pub laid_file : ElfView → Changes → List ℕ → List Moved → List ℕ
laid_file e changes input placed =
    let keep = keep_end e in
    let end = placed_end keep placed in
    let headers_at = new_headers_at changes end in
    new_front keep headers_at (new_count e changes) input
    ++ (spread (content_at e changes input) keep placed
    ++ (added_bytes changes
    ++ (replicate (headers_at - (end + length (added_bytes changes))) 0
    ++ (new_headers input placed 0 e.sections
    ++ sup_header e end changes.sup))))

-- the sections in their places
abbrev pub placed_of : ElfView → Changes → List ℕ → List (ℕ × ℕ) → List Moved
placed_of e changes input order = placed_from e (content_at e changes input) (keep_end e) order

-- the length of the new file
unfoldable pub rebuilt_length : ElfView → Changes → List ℕ → List (ℕ × ℕ) → ℕ
rebuilt_length e changes input order = length_with_headers e changes (placed_end (keep_end e) (placed_of e changes input order))

-- the new file
unfoldable pub rebuilt : ElfView → Changes → List ℕ → List (ℕ × ℕ) → List ℕ
rebuilt e changes input order = laid_file e changes input (placed_of e changes input order)

-- Why an ELF file isn't read, and where: each fault with what holds then, and their order.
use Rattle.std.specs.Prelude.{◌≡◌, ◌≢◌, ◌⊎◌, ℕ, ◌<◌, ◌≤◌, List, [], ◌∷◌, ◌++◌, take, length, Bool, true, false, ◌&&◌, ◌==◌, not, Some, slice_get}
use Rattle.std.specs.Int.{is_power_of_two}
use Rattle.dwz_model.specs.declared.fault.Fault.{Fault}
use Rattle.dwz_model.specs.declared.fault.Reason.{Reason}
use Rattle.dwz_model.specs.declared.fault.Reason.TheVariants.{NotElf, FileType, SectionTable, Compressed, NoDebugInfo, Index}
use Rattle.dwz_def_reading.specs.declared.elf.FileHeader.{FileHeader}
use Rattle.dwz_def_reading.specs.declared.elf.Header.{Header}
use Rattle.dwz_def_reading.specs.declared.elf.Section.{Section}
use Rattle.dwz_def_reading.specs.FirstOf.{OrElse}
use Rattle.dwz_def_reading.specs.ElfHeaders.{end_of, file_header, has_relocations, headers_end, is_compressed, is_there, program_headers_end}
use Rattle.dwz_def_reading.specs.ElfNames.{names_header, sections_in}

-- a fault of the file at a place, in bytes from the first of the file
abbrev pub file_fault : Reason → ℕ → Fault
file_fault reason at = record { section = 0; at = at; reason = reason }

-- ---- rows and their order

-- a row: what holds, and the fault that it is then
abbrev pub FaultRow : Type 0 → Reason → ℕ → Fault → Type 0
FaultRow What reason at f = (f ≡ file_fault reason at) × What

-- the one row holds, or the other
abbrev pub Either : (Fault → Type 0) → (Fault → Type 0) → Fault → Type 0
Either First Then f = First f ⊎ Then f

abbrev pub NoRow : Fault → Type 0
NoRow f = ⊥

-- the rows of the items of a list in order, each given the items before it
abbrev pub InOrder : {X : Type 0} → ((Fault → Type 0) → (Fault → Type 0) → Fault → Type 0) → (List X → X → Fault → Type 0) → List X → List X
    → Fault → Type 0
InOrder Join RowOf before [] = NoRow
InOrder Join RowOf before (x ∷ xs) = Join (RowOf before x) (InOrder Join RowOf (before ++ x ∷ []) xs)

-- ---- the identification ("ELF Identification")

-- the magic number, class 64, little-endian, version 1
abbrev pub identification : List ℕ
identification = 0x7f ∷ 0x45 ∷ 0x4c ∷ 0x46 ∷ 2 ∷ 1 ∷ 1 ∷ []

-- the bytes are the wanted ones up to that place, and there is another, or none
pub record IsFirstOther (wanted bytes : List ℕ) (at : ℕ) : Type 0 where
  pub within : at < length wanted
  pub same : take at bytes ≡ take at wanted
  pub other : slice_get bytes at ≢ slice_get wanted at

-- one of the first seven bytes is wrong or missing
abbrev pub WrongByte : List ℕ → Fault → Type 0
WrongByte bytes f = (at : ℕ) × FaultRow (IsFirstOther identification bytes at) NotElf at f

-- the file is shorter than its header
abbrev pub TooShort : List ℕ → Fault → Type 0
TooShort bytes = FaultRow (length bytes < 64) NotElf (length bytes)

abbrev pub IdentificationRows : ((Fault → Type 0) → (Fault → Type 0) → Fault → Type 0) → List ℕ → Fault → Type 0
IdentificationRows Join bytes = Join (WrongByte bytes) (TooShort bytes)

-- ---- the file header

-- neither an executable nor a shared object
abbrev pub WrongType : FileHeader → Fault → Type 0
WrongType file = FaultRow ((file.kind ≢ 2) × (file.kind ≢ 3)) FileType 16

-- no section header table
abbrev pub NoTable : FileHeader → Fault → Type 0
NoTable file = FaultRow (file.headers_at ≡ 0) SectionTable 40

abbrev pub WrongSize : FileHeader → Fault → Type 0
WrongSize file = FaultRow (file.header_size ≢ 64) SectionTable 58

-- in what manner a file is read: how many section headers it may have at most, and whether `.debug_sup` may be there
pub record ElfManner : Type 0 where
  pub headers : ℕ
  pub sup : Bool

-- a file by itself, to which a section can be added whose index is below SHN_LORESERVE, without `.debug_sup`
abbrev pub by_itself : ElfManner
by_itself = record { headers = 65278; sup = false }

-- one that may have been written by this tool, which may have added `.debug_sup`
abbrev pub read_back : ElfManner
read_back = record { headers = 65279; sup = true }

-- no section header, or too many
abbrev pub WrongCountFor : ElfManner → FileHeader → Fault → Type 0
WrongCountFor m file = FaultRow ((file.headers ≡ 0) ⊎ (m.headers < file.headers)) SectionTable 60

abbrev pub WrongNames : FileHeader → Fault → Type 0
WrongNames file = FaultRow ((file.names ≡ 0) ⊎ (file.headers ≤ file.names)) SectionTable 62

abbrev pub TablePastEnd : List ℕ → FileHeader → Fault → Type 0
TablePastEnd bytes file = FaultRow (length bytes < headers_end file) SectionTable 40

abbrev pub ProgramTablePastEnd : List ℕ → FileHeader → Fault → Type 0
ProgramTablePastEnd bytes file = FaultRow ((file.program_headers ≢ 0) × (length bytes < program_headers_end file)) SectionTable 32

abbrev pub FieldRowsFor : ElfManner → ((Fault → Type 0) → (Fault → Type 0) → Fault → Type 0) → List ℕ → FileHeader → Fault → Type 0
FieldRowsFor m Join bytes file =
    Join (WrongType file)
    (Join (NoTable file)
    (Join (WrongSize file)
    (Join (WrongCountFor m file)
    (Join (WrongNames file)
    (Join (TablePastEnd bytes file)
    (ProgramTablePastEnd bytes file))))))

-- the name table isn't there, or ends past the end of the file
abbrev pub NoNameTable : List ℕ → Header → Fault → Type 0
NoNameTable bytes names = FaultRow ((is_there names ≡ false) ⊎ (length bytes < end_of names)) SectionTable 62

-- ---- each section header by itself

-- the alignment isn't 0, and no power of two
abbrev pub IsMisaligned : Header → Type 0
IsMisaligned h = (h.align ≢ 0) × (is_power_of_two h.align ≡ false)

-- the section has bytes in the file
abbrev pub HasBytes : Header → Type 0
HasBytes h = (is_there h ≡ true) × (0 < h.size)

-- it has bytes, and they end past the end of the file or begin inside the file header
abbrev pub IsMisplaced : ℕ → Header → Type 0
IsMisplaced len h = HasBytes h × ((len < end_of h) ⊎ (h.offset < 64))

-- some section with that code is there
abbrev pub Has : ℕ → List Section → Type 0
Has code [] = ⊥
Has code (s ∷ sections) = ((is_there s.header ≡ true) × (s.name.code ≡ code)) ⊎ Has code sections

-- it has the name of a section with a code, and is there as one before it is, or is the name table
abbrev pub IsMisnamed : ℕ → List Section → Section → Type 0
IsMisnamed names before s =
    (s.name.code ≢ 0) × (((is_there s.header ≡ true) × Has s.name.code before) ⊎ (length before ≡ names))

-- a section header that no file may have, in a file of that length and with that index of the name table, given the
-- sections before it
abbrev pub WrongHeader : ℕ → ℕ → List Section → Section → Fault → Type 0
WrongHeader len names before s =
    FaultRow (IsMisaligned s.header ⊎ (IsMisplaced len s.header ⊎ ((s.name.ends ≡ false) ⊎ IsMisnamed names before s)))
    SectionTable s.header.at

-- ---- sections that can't be kept, or read

-- the section of that index is there, and is one that is written again with other offsets
abbrev pub IsRewritten : List Section → ℕ → Type 0
IsRewritten sections index =
    (t : Section) × (slice_get sections index ≡ Some t) × (is_there t.header ≡ true) × (t.name.code ≢ 0) × (t.name.code ≤ 8)

-- whether a section is an index, which can't be kept; not `.debug_sup` where it may be there
abbrev pub is_index : Bool → Section → Bool
is_index true s = s.name.is_index && not (s.name.code == 9)
is_index false s = s.name.is_index

-- an index, or relocations that would name moved places
abbrev pub CannotBeKeptFor : ElfManner → List Section → Section → Fault → Type 0
CannotBeKeptFor m sections s =
    FaultRow ((is_there s.header ≡ true)
    × ((is_index m.sup s ≡ true) ⊎ ((has_relocations s.header ≡ true) × IsRewritten sections s.header.info)))
    Index s.header.at

abbrev pub IsCompressedDebug : Section → Fault → Type 0
IsCompressedDebug s =
    FaultRow ((is_there s.header ≡ true) × (s.name.is_debug ≡ true) × (is_compressed s.header ≡ true)) Compressed s.header.at

abbrev pub KeptRowsFor : ElfManner → ((Fault → Type 0) → (Fault → Type 0) → Fault → Type 0) → List Section → Section → Fault → Type 0
KeptRowsFor m Join sections s = Join (CannotBeKeptFor m sections s) (IsCompressedDebug s)

-- `.debug_info` or `.debug_abbrev` isn't there
abbrev pub NoDebug : List Section → Fault → Type 0
NoDebug sections = FaultRow ((¬ Has 1 sections) ⊎ (¬ Has 2 sections)) NoDebugInfo 0

-- ---- the faults of a file, in order

abbrev pub ElfRowsFor : ElfManner → ((Fault → Type 0) → (Fault → Type 0) → Fault → Type 0) → List ℕ → Fault → Type 0
ElfRowsFor m Join bytes =
    let file = file_header bytes in
    let sections = sections_in bytes in
    Join (IdentificationRows Join bytes)
    (Join (FieldRowsFor m Join bytes file)
    (Join (NoNameTable bytes (names_header bytes))
    (Join (InOrder Join (WrongHeader (length bytes) file.names) [] sections)
    (Join (InOrder Join (λ before. KeptRowsFor m Join sections) [] sections)
    (NoDebug sections)))))

-- the first fault of the file, read in that manner: its row holds at its place, and no row before it does
abbrev pub IsFirstElfFaultFor : ElfManner → List ℕ → Fault → Type 0
IsFirstElfFaultFor m bytes = ElfRowsFor m OrElse bytes

abbrev pub IsFirstElfFault : List ℕ → Fault → Type 0
IsFirstElfFault = IsFirstElfFaultFor by_itself

-- a fault of the file in that manner, first or not
abbrev pub IsElfFaultFor : ElfManner → List ℕ → Fault → Type 0
IsElfFaultFor m bytes = ElfRowsFor m Either bytes

abbrev pub IsElfFault : List ℕ → Fault → Type 0
IsElfFault = IsElfFaultFor by_itself

-- An ELF file that is made from another reads back: what is asked of the changes, and what stays (ElfLayout).
use Rattle.std.specs.Prelude.{◌≡◌, ◌≢◌, ◌⊎◌, ℕ, ◌<◌, ◌≤◌, List, [], true, None, Option, Some, All, Any, slice_get, codes, ◌==◌}
use Rattle.std.specs.Prelude.{if◌then◌else◌}
use Rattle.dwz_def_reading.specs.declared.elf.FileHeader.{FileHeader}
use Rattle.dwz_def_reading.specs.declared.elf.NewContent.{NewContent}
use Rattle.dwz_def_reading.specs.declared.elf.Section.{Section}
use Rattle.dwz_def_reading.specs.ElfHeaders.{content, file_header, is_loaded, is_there}
use Rattle.dwz_def_reading.specs.ElfLayout.{Changes, IsOrder, content_at, content_for, layout_fault, rebuilt, rebuilt_length, too_large}
use Rattle.dwz_def_reading.specs.ElfNames.{known_name, sections_in}
use Rattle.dwz_def_reading.specs.ElfReading.{elf_fault, elf_of}

-- The section is there, has the code of a new content, and can be given it. A loaded section stays where it is, and so one that
-- has no bytes can get none.
abbrev pub CanBeGiven : NewContent → Section → Type 0
CanBeGiven n s =
    (is_there s.header ≡ true) × (s.name.code ≡ n.code) × (is_loaded s.header ≡ true → s.header.size ≡ 0 → n.bytes ≡ [])

-- each new content can be given to a section
pub record CanChange (sections : List Section) (changes : Changes) : Type 0 where
  pub coded : All (λ n. n.code ≢ 0) changes.new
  pub given : All (λ n. Any (CanBeGiven n) sections) changes.new

-- a file without a fault can be laid out with these changes, its moved sections in that order, and isn't too large then
pub record CanBeMade (input : List ℕ) (changes : Changes) (order : List (ℕ × ℕ)) : Type 0 where
  pub reads : elf_fault input ≡ None
  pub can_change : CanChange (sections_in input) changes
  pub fits : layout_fault (elf_of input) changes ≡ None
  pub is_order : IsOrder (elf_of input) order
  pub small : rebuilt_length (elf_of input) changes input order < too_large

-- the file that is made
abbrev pub new_file : List ℕ → Changes → List (ℕ × ℕ) → List ℕ
new_file input changes order = rebuilt (elf_of input) changes input order

-- what holds of each file that can be made: of the old file, the changes, and the new one
abbrev pub EachMade : (List ℕ → Changes → List ℕ → Type 0) → Type 0
EachMade P = (input : List ℕ) (changes : Changes) (order : List (ℕ × ℕ)) → CanBeMade input changes order
    → P input changes (new_file input changes order)

-- ---- what it reads as

-- the same file header, but for where the section header table is, and with so many section headers
abbrev pub HasSameFields : ℕ → FileHeader → FileHeader → Type 0
HasSameFields count old new = new ≡ record old { headers_at = new.headers_at; headers = count }

-- the new content for a code, if there is one; that of `.debug_sup` is the one that is added
abbrev pub new_for : Changes → ℕ → Option (List ℕ)
new_for changes code = if code == 9 then changes.sup else content_for changes.new code

-- a section is the same but for where it stands, and holds what is wanted
pub record IsCarried (out wanted : List ℕ) (old new : Section) : Type 0 where
  pub named : new.header.name ≡ old.header.name
  pub name : new.name ≡ old.name
  pub kind : new.header.kind ≡ old.header.kind
  pub flags : new.header.flags ≡ old.header.flags
  pub info : new.header.info ≡ old.header.info
  pub align : new.header.align ≡ old.header.align
  pub holds : is_there old.header ≡ true → content out new.header ≡ wanted

-- `.debug_sup` with that content: of type SHT_PROGBITS, without flags, not aligned
pub record IsSup (out sup : List ℕ) (s : Section) : Type 0 where
  pub name : s.name ≡ known_name (Some (codes ".debug_sup"))
  pub kind : s.header.kind ≡ 1
  pub flags : s.header.flags ≡ 0
  pub align : s.header.align ≡ 1
  pub holds : content out s.header ≡ sup

-- each section that was there stands at its index
abbrev pub AreCarried : List ℕ → Changes → List ℕ → Type 0
AreCarried input changes out =
    (k : ℕ) (s : Section) → slice_get (sections_in input) k ≡ Some s
    → (t : Section) × (slice_get (sections_in out) k ≡ Some t) × IsCarried out (content_at (elf_of input) changes input k) s t

-- what is added stands behind them
abbrev pub IsAdded : List ℕ → Changes → List ℕ → Type 0
IsAdded input changes out =
    (sup : List ℕ) → changes.sup ≡ Some sup → (t : Section) × (slice_get (sections_in out) (file_header input).headers ≡ Some t)
    × IsSup out sup t

-- the places of e_shoff and e_shnum, which say where the section header table is and how many headers it has
abbrev pub IsTableField : ℕ → Type 0
IsTableField at = ((40 ≤ at) × (at < 48)) ⊎ ((60 ≤ at) × (at < 62))

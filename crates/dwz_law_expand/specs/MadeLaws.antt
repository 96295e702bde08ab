-- The file that is made of one that reads has its new sections, and no `.debug_sup`.
use Rattle.std.specs.Prelude.{◌≡◌, ℕ, ◌+◌, ◌*◌, ◌<◌, ◌≤◌, List, true, None, Some, drop, replicate, slice_get, take}
use Rattle.dwz_def_reading.specs.Refusal.{Refusal}
use Rattle.dwz_def_reading.specs.declared.elf.Section.{Section}
use Rattle.dwz_def_reading.specs.Units.{RawUnit}
use Rattle.dwz_def_reading.specs.ElfHeaders.{file_header}
use Rattle.dwz_def_reading.specs.ElfLayout.{Changes, IsOrder, layout_fault, rebuilt_length, too_large}
use Rattle.dwz_def_reading.specs.ElfNames.{sections_in}
use Rattle.dwz_def_reading.specs.ElfReading.{elf_fault, elf_of, has_code}
use Rattle.dwz_def_output.specs.Changed.{changes_by}
use Rattle.dwz_def_output.specs.Rebuilt.{CanBeMade, new_file}
use Rattle.dwz_def_expand.specs.OneFile.{OneFile, ReadsOne}
use Rattle.dwz_def_expand.specs.Output.{ExpandRefusal, new_sections}
use Rattle.dwz_def_expand.specs.Dropped.{without_sup}
use Rattle.dwz_def_expand.specs.After.{ReadsFreely, units_after}
use Rattle.dwz_law_expand.specs.ReadLaws.{HasExpanded}
use Rattle.dwz_law_expand.specs.Told.{IsOfBytes}

abbrev pub changes_of : OneFile → Changes
changes_of f = changes_by (new_sections f) None

-- an ELF file can be laid out with the new sections of a file, those that move in that order, and isn't too large then
pub record CanBeLaid (f : OneFile) (input : List ℕ) (order : List (ℕ × ℕ)) : Type 0 where
  pub fits : layout_fault (elf_of input) (changes_of f) ≡ None
  pub is_order : IsOrder (elf_of input) order
  pub small : rebuilt_length (elf_of input) (changes_of f) input order < too_large

-- so they can be given to it, and what is made so has them
abbrev pub IsMadeOf : OneFile → List ℕ → List (ℕ × ℕ) → Type 0
IsMadeOf f input order = CanBeMade input (changes_of f) order × HasExpanded f (new_file input (changes_of f) order)

-- where a file that reads is one by itself, and so has no `.debug_sup`
abbrev pub MadeLaw : Type 0
MadeLaw =
    (f : OneFile) (order : List (ℕ × ℕ)) → ReadsOne f → elf_fault f.file.bytes ≡ None → CanBeLaid f f.file.bytes order
    → IsMadeOf f f.file.bytes order

-- and of each file that reads without `.debug_sup`, where it hasn't more section headers than a file by itself may have
abbrev pub DropLaw : Type 0
DropLaw =
    (f : OneFile) (order : List (ℕ × ℕ)) → IsOfBytes f → ReadsOne f → (file_header f.file.bytes).headers ≤ 65278
    → CanBeLaid f (without_sup f.file.bytes) order → IsMadeOf f (without_sup f.file.bytes) order

-- there the header of that section is 64 zero bytes
abbrev pub ZeroLaw : Type 0
ZeroLaw =
    (f : OneFile) (order : List (ℕ × ℕ)) → IsOfBytes f → ReadsOne f → (file_header f.file.bytes).headers ≤ 65278
    → CanBeLaid f (without_sup f.file.bytes) order
    → (k : ℕ) (s : Section) → slice_get (sections_in f.file.bytes) k ≡ Some s → has_code 9 s ≡ true
    → let out = new_file (without_sup f.file.bytes) (changes_of f) order in
    take 64 (drop ((file_header out).headers_at + 64 * k) out) ≡ replicate 64 0

-- and where nothing refuses the file, what is made reads by itself, and says the new units
abbrev pub MadeReadLaw : Type 0
MadeReadLaw =
    (f : OneFile) (order : List (ℕ × ℕ)) → IsOfBytes f → ReadsOne f → (file_header f.file.bytes).headers ≤ 65278
    → CanBeLaid f (without_sup f.file.bytes) order → ((q : Refusal) → ¬ ExpandRefusal f q)
    → (raw : List RawUnit) × ReadsFreely (new_file (without_sup f.file.bytes) (changes_of f) order) raw (units_after f)

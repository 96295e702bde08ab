-- Nothing is wrong with the `.debug_sup` of what was written over a finished common file (DWARF 5, 7.3.6); and which files have it.
use Rattle.std.specs.Prelude.{◌≡◌, ◌↔◌, true, false, ℕ, List, None, Some}
use Rattle.dwz_def_reading.specs.Lists.{Each, Nth}
use Rattle.dwz_def_reading.specs.Documents.{Doc}
use Rattle.dwz_def_reading.specs.Finished.{file_sup_fault, has_sup}
use Rattle.dwz_def_reading.specs.Texts.{NoZero}
use Rattle.dwz_def_reading.specs.Values.{AreBytes}
use Rattle.dwz_def_images.specs.Homes.{file_of}
use Rattle.dwz_def_readback.specs.Files.{imports_common}
use Rattle.dwz_def_output.specs.FilesAfter.{bytes_after_by}
use Rattle.dwz_def_taken.specs.Takes.{Takes}
use Rattle.dwz_def_over.specs.Over.{AreOverFiles, OverFiles, reused, run_over, stands}
use Rattle.dwz_def_over.specs.Written.{CanBeWrittenOver, IsAnew, file_over}

-- of each file of which something moves, or is taken, beside the common file
abbrev pub AreGoodOver : List ℕ → OverFiles → Type 0
AreGoodOver name o = (file : ℕ) → IsAnew o file → file_sup_fault (Some o.common) (file_over name o file) ≡ None

-- where nothing refuses the files
abbrev pub SupOverLaw : Type 0
SupOverLaw = (name : List ℕ) (o : OverFiles) → Each AreBytes o.contents → CanBeWrittenOver name o → NoZero name → AreGoodOver name o

-- the bytes of a file after; one of which nothing moves, and nothing is taken, keeps its own
abbrev pub bytes_over : List ℕ → OverFiles → ℕ → List ℕ
bytes_over name o = bytes_after_by (stands o) name (run_over o)

-- No file that is read has `.debug_sup`; after, just those have it that import from the common file.
abbrev pub NamesOverLaw : Type 0
NamesOverLaw =
    (name : List ℕ) (o : OverFiles) → Each AreBytes o.contents → CanBeWrittenOver name o
    → (file : ℕ) (doc : Doc ℕ) → Nth 0 o.said.docs file doc
    → (has_sup ((run_over o).input.bytes file) ≡ false)
    × (has_sup (bytes_over name o file) ≡ imports_common (run_over o).move (run_over o).units file)

-- One of the units of the file takes a partial unit of the common file.
pub record TakesSome (o : OverFiles) (file : ℕ) : Type 0 where
  pub unit : ℕ
  pub part : ℕ
  pub takes : Takes (reused o) unit part
  pub of_file : file_of (run_over o).units unit ≡ file

-- Just such files import from it.
abbrev pub TakesOverLaw : Type 0
TakesOverLaw =
    (o : OverFiles) → Each AreBytes o.contents → AreOverFiles o → (file : ℕ)
    → (imports_common (run_over o).move (run_over o).units file ≡ true) ↔ TakesSome o file

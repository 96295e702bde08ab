-- Nothing is wrong with the `.debug_sup` of what was written (DWARF 5, 7.3.6).
use Rattle.std.specs.Prelude.{◌≡◌, true, None, Some, Bool, ℕ, List}
use Rattle.dwz_def_reading.specs.Lists.{Each, In}
use Rattle.dwz_def_reading.specs.Documents.{Doc}
use Rattle.dwz_def_reading.specs.Finished.{common_sup_fault, file_sup_fault}
use Rattle.dwz_def_reading.specs.Texts.{NoZero}
use Rattle.dwz_def_reading.specs.Values.{AreBytes}
use Rattle.dwz_def_tops.specs.Alike.{TopScope}
use Rattle.dwz_def_images.specs.Units.{changes}
use Rattle.dwz_def_readback.specs.Files.{Run}
use Rattle.dwz_def_output.specs.FilesAfter.{common_bytes, file_after}
use Rattle.dwz_def_output.specs.Written.{CanBeWritten, run_under}

-- of the common file, and, beside it, of each file of which something moves
pub record AreGood (name : List ℕ) (r : Run) : Type 0 where
  pub common : common_sup_fault (common_bytes r) ≡ None
  pub file : (file : ℕ) → In file r.files → changes r.move r.units file ≡ true
      → file_sup_fault (Some (common_bytes r)) (file_after name r file) ≡ None

-- where nothing refuses the files
abbrev pub SupLaw : Type 0
SupLaw =
    (scope : TopScope) (name : List ℕ) (contents : List (List ℕ)) (docs : List (Doc ℕ)) (prunes : List Bool) → Each AreBytes contents
    → CanBeWritten scope name contents docs prunes → NoZero name → AreGood name (run_under scope contents docs prunes)

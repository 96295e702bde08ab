-- Inner: what holds of the units that are written of files that read.
use Rattle.std.specs.Prelude.{ℕ, ◌<◌, ◌^◌, List, length}
use Rattle.dwz_def_reading.specs.ElfLayout.{too_large}
use Rattle.dwz_def_reading.specs.Lists.{Each, In}
use Rattle.dwz_def_reading.specs.Documents.{Doc}
use Rattle.dwz_def_tops.specs.Alike.{IsAlike, TopScope}
use Rattle.dwz_def_tops.specs.Spots.{EntryName, units_of}
use Rattle.dwz_def_tops.specs.Lists.{NoneTwice}
use Rattle.dwz_def_tops.specs.Shown.{units_keys}
use Rattle.dwz_def_images.specs.Homes.{IsChoice, Rule}
use Rattle.dwz_def_images.specs.Units.{all_units}
use Rattle.dwz_def_encoding.specs.Placing.{FileOut, lines_bytes, texts_bytes}
use Rattle.dwz_def_encoding.specs.Sound.{SoundUnit}
use Rattle.dwz_def_readback.specs.AllFiles.{AreRead}
use Rattle.dwz_def_readback.specs.Back.{run_of}
use Rattle.dwz_def_readback.specs.Files.{Run, Stored, files_out, paths, texts}

-- `.debug_str` and `.debug_line` of the common file aren't too long
pub record FewTexts (r : Run) : Type 0 where
  pub strs : length (texts_bytes (texts r)) < 2 ^ 32
  pub lines : length (lines_bytes (paths r)) < too_large

-- then all units of all files are sound
abbrev pub FilesSoundLaw : Type 0
FilesSoundLaw =
    (scope : TopScope) (docs : List (Doc ℕ)) (input : Stored) → AreRead input docs → (rule : Rule)
    → IsAlike scope (units_of docs) rule.alike
    → IsChoice (units_of docs) rule → FewTexts (run_of rule docs input)
    → (f : FileOut EntryName) → In f (files_out (run_of rule docs input)) → Each SoundUnit f.units

-- and in any case no name stands twice in the units after
abbrev pub RunApartLaw : Type 0
RunApartLaw =
    (scope : TopScope) (docs : List (Doc ℕ)) (input : Stored) → AreRead input docs → (rule : Rule)
    → IsAlike scope (units_of docs) rule.alike
    → IsChoice (units_of docs) rule
    → let r = run_of rule docs input in NoneTwice (units_keys (all_units r.move r.units r.files))

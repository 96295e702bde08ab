-- What holds of all that is written of files, whatever moves.
use Rattle.std.specs.Prelude.{◌≡◌, ℕ, ◌<◌, ◌^◌, List, length}
use Rattle.dwz_def_reading.specs.Documents.{Doc, DwUnit}
use Rattle.dwz_def_reading.specs.Files.{section_of}
use Rattle.dwz_def_reading.specs.Lists.{Each, In}
use Rattle.dwz_def_tops.specs.Alike.{IsAlike, TopScope}
use Rattle.dwz_def_tops.specs.Lists.{NoneTwice}
use Rattle.dwz_def_tops.specs.Shown.{HaveMains, units_keys}
use Rattle.dwz_def_tops.specs.Spots.{EntryName, UnitOf, units_of}
use Rattle.dwz_def_images.specs.Homes.{IsChoice, Rule}
use Rattle.dwz_def_images.specs.After.{ArePlaced}
use Rattle.dwz_def_images.specs.Units.{all_units, common_units, out_units}
use Rattle.dwz_def_encoding.specs.Carried.{ClosedIn}
use Rattle.dwz_def_encoding.specs.Meant.{UnitsSay, all_entry_keys, entry_keys}
use Rattle.dwz_def_encoding.specs.Sound.{SoundUnit}
use Rattle.dwz_def_readback.specs.AllFiles.{AreRead}
use Rattle.dwz_def_readback.specs.Back.{run_of}
use Rattle.dwz_def_readback.specs.Files.{CommonFile, Made, Run, Stands, Stored, common_fitted, common_fitted_by, fitted_by, formed_by, tells_by, tells_common}
use Rattle.dwz_def_readback.specs.Sound.{FewTexts}

-- texts that are written aren't too long: those of a common file that is made, and those of one that stands
abbrev pub FewBy : CommonFile → Run → Type 0
FewBy Made r = FewTexts r
FewBy (Stands c) r = length (section_of c.bytes 3) < 2 ^ 32

-- what a common file that is made refers to are its own entries
abbrev pub CommonClosed : CommonFile → Run → Type 0
CommonClosed Made r = ClosedIn (tells_common r) (common_units r.move)
CommonClosed (Stands c) r = Unit {0}

-- and its units are sound
abbrev pub CommonSound : CommonFile → Run → Type 0
CommonSound Made r = Each SoundUnit (common_fitted r)
CommonSound (Stands c) r = Unit {0}

-- No name stands twice, none of an entry is a unit's, the type of a type unit is an entry, and entries of the common file have their
-- names; each reference names an entry of its file or of the common one. Where the files read, and the texts of the common file aren't
-- too long, all units are sound, and with the forms of their values they say the same.
pub record AreWhole (k : CommonFile) (docs : List (Doc ℕ)) (r : Run) : Type 0 where
  pub apart : NoneTwice (units_keys (all_units r.move r.units r.files))
  pub entries : (u : DwUnit EntryName) (s : EntryName) → In u (all_units r.move r.units r.files) → In s (entry_keys u) → s ≡ UnitOf 0 → ⊥
  pub mains : HaveMains (all_units r.move r.units r.files)
  pub shared : all_entry_keys (common_fitted_by k r) ≡ all_entry_keys (common_units r.move)
  pub closed : (file : ℕ) → ClosedIn (tells_by k r file) (out_units r.move r.units file)
  pub common : CommonClosed k r
  pub common_sound : AreRead r.input docs → FewBy k r → CommonSound k r
  pub sound : AreRead r.input docs → FewBy k r → (file : ℕ) → In file r.files → Each SoundUnit (fitted_by k r file)
  pub say : AreRead r.input docs → FewBy k r → (file : ℕ) → In file r.files → UnitsSay (tells_by k r file) (formed_by k r file)

-- so it is where tops move that are alike, and the choice is as it is asked for
abbrev pub WholeLaw : Type 0
WholeLaw =
    (scope : TopScope) (docs : List (Doc ℕ)) (rule : Rule) → Each (λ doc. ArePlaced doc.units) docs
    → IsAlike scope (units_of docs) rule.alike → IsChoice (units_of docs) rule → (input : Stored)
    → AreWhole Made docs (run_of rule docs input)

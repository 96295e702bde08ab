-- What is read back of a file means what the file meant.
use Rattle.std.specs.Prelude.{◌≡◌, ◌≢◌, ℕ, List, map}
use Rattle.dwz_def_reading.specs.Lists.{Each, In, Nth}
use Rattle.dwz_def_reading.specs.Documents.{Doc, DwUnit, unit_map}
use Rattle.dwz_def_tops.specs.Alike.{IsAlike, TopScope}
use Rattle.dwz_def_tops.specs.Spots.{EntryName, units_of}
use Rattle.dwz_def_images.specs.Homes.{IsChoice, Rule}
use Rattle.dwz_def_images.specs.After.{ArePlaced}
use Rattle.dwz_def_reading.specs.Places.{Place, at_file}
use Rattle.dwz_def_encoding.specs.Meant.{placed_units}
use Rattle.dwz_def_readback.specs.Back.{AreAtOld, IsPlacing, run_of}
use Rattle.dwz_def_readback.specs.Files.{Run, Stored, common_fitted, fitted, places}
use Rattle.dwz_def_tops.specs.Shown.{units_keys}
use Rattle.dwz_def_cross.specs.CrossSame.{CrossSame}
use Rattle.dwz_law_cross.specs.PairLaws.{alone, with_common}

-- the units of the file, and those of the common file, are those that are said by what is read back (`SaysPlaced`)
abbrev pub BackSameLaw : Type 0
BackSameLaw =
    (scope : TopScope) (docs : List (Doc ℕ)) (rule : Rule) → Each (λ doc. ArePlaced doc.units) docs → IsAlike scope (units_of docs) rule.alike
    → IsChoice (units_of docs) rule → (input : Stored) (g : EntryName → Place) → IsPlacing (run_of rule docs input) g
    → AreAtOld (run_of rule docs input) g docs → (file : ℕ) (doc : Doc ℕ) → Nth 0 docs file doc
    → CrossSame (alone doc)
    (with_common (placed_units (places (run_of rule docs input)) g (fitted (run_of rule docs input) file))
    (placed_units (places (run_of rule docs input)) g (common_fitted (run_of rule docs input))))

-- ---- the two files beside the common one, each with a number of its own

-- names of the file stand where they are written, in the new file; and those of the common file in that
pub record IsPlacedFor (r : Run) (file new common : ℕ) (g : EntryName → Place) : Type 0 where
  pub own : (k : EntryName) → In k (units_keys (fitted r file)) → g k ≡ at_file new ((places r).place k)
  pub shared : (k : EntryName) → In k (units_keys (common_fitted r)) → g k ≡ at_file common ((places r).place k)

abbrev pub new_units : Run → (EntryName → Place) → ℕ → List (DwUnit Place)
new_units r g file = placed_units (places r) g (fitted r file)

abbrev pub shared_units : Run → (EntryName → Place) → List (DwUnit Place)
shared_units r g = placed_units (places r) g (common_fitted r)

-- the file as it was, with places of the old file, and what is read back of it mean the same, each beside the common file
abbrev pub MeetLaw : Type 0
MeetLaw =
    (scope : TopScope) (docs : List (Doc ℕ)) (rule : Rule) → Each (λ doc. ArePlaced doc.units) docs → IsAlike scope (units_of docs) rule.alike
    → IsChoice (units_of docs) rule → (input : Stored) (file : ℕ) (doc : Doc ℕ) → Nth 0 docs file doc
    → (old new common : ℕ) → old ≢ common → new ≢ common → (g : EntryName → Place) → IsPlacedFor (run_of rule docs input) file new common g
    → CrossSame (with_common (map (unit_map (at_file old)) doc.units) (shared_units (run_of rule docs input) g))
    (with_common (new_units (run_of rule docs input) g file) (shared_units (run_of rule docs input) g))

-- there are such places
abbrev pub PlacesLaw : Type 0
PlacesLaw =
    (scope : TopScope) (docs : List (Doc ℕ)) (rule : Rule) → Each (λ doc. ArePlaced doc.units) docs → IsAlike scope (units_of docs) rule.alike
    → IsChoice (units_of docs) rule → (input : Stored) (file : ℕ) (doc : Doc ℕ) → Nth 0 docs file doc
    → (new common : ℕ) → (g : EntryName → Place) × IsPlacedFor (run_of rule docs input) file new common g

-- What was read of a file, and what is read back of it, mean the same where the two are read beside the common file, each with a number of
-- its own.
use Rattle.std.specs.Prelude.{◌≡◌, ◌≢◌, false, true, ℕ, List, [], Option, Some, None}
use Rattle.dwz_def_reading.specs.Lists.{Each, Nth}
use Rattle.dwz_def_reading.specs.Documents.{Doc, DwUnit, Partial}
use Rattle.dwz_def_reading.specs.Finished.{given_by}
use Rattle.dwz_def_reading.specs.Meanings.{Common}
use Rattle.dwz_def_reading.specs.Places.{Place}
use Rattle.dwz_def_reading.specs.Units.{RawUnit}
use Rattle.dwz_def_tops.specs.Alike.{IsAlike, TopScope}
use Rattle.dwz_def_tops.specs.Spots.{units_of}
use Rattle.dwz_def_images.specs.Homes.{IsChoice, Rule}
use Rattle.dwz_def_images.specs.After.{ArePlaced}
use Rattle.dwz_def_images.specs.Units.{changes}
use Rattle.dwz_def_readback.specs.AllFiles.{ReadBack}
use Rattle.dwz_def_readback.specs.Back.{SaysUnits, run_of}
use Rattle.dwz_def_readback.specs.Files.{Stored}
use Rattle.dwz_def_cross.specs.CrossSame.{CrossSame}
use Rattle.dwz_law_cross.specs.PairLaws.{with_common}
use Rattle.dwz_law_cross.specs.ReadLaws.{doc_in}

-- The old file and the new one, with these numbers, beside what a common file gives and with its units: what they say, of which the old
-- one's is that document, and that it means the same.
pub record SaySame (common : Option (Common Place)) (shared : List (DwUnit Place)) (old new : ℕ) (doc : Doc ℕ) (was now : List ℕ) :
    Type 0 where
  pub old_raw : List RawUnit
  pub old_says : SaysUnits common old was old_raw (doc_in old doc).units
  pub new_raw : List RawUnit
  pub new_units : List (DwUnit Place)
  pub new_says : SaysUnits common new now new_raw new_units
  pub same : CrossSame (with_common (doc_in old doc).units shared) (with_common new_units shared)

-- the same beside a common file with that number, all of whose units are partial, or without one
abbrev pub MeanSame : Option (List ℕ) → ℕ → ℕ → ℕ → Doc ℕ → List ℕ → List ℕ → Type 0
MeanSame None old new common doc was now = SaySame None [] old new doc was now
MeanSame (Some bytes) old new common doc was now =
    (raw : List RawUnit) × (shared : List (DwUnit Place)) × SaysUnits None common bytes raw shared × Each (λ u. u.kind ≡ Partial) shared
    × SaySame (Some (given_by common bytes raw)) shared old new doc was now

-- where files read back, each of which something moves means what it meant
abbrev pub CheckLaw : Type 0
CheckLaw =
    (scope : TopScope) (docs : List (Doc ℕ)) (rule : Rule) → Each (λ doc. ArePlaced doc.units) docs → IsAlike scope (units_of docs) rule.alike
    → IsChoice (units_of docs) rule → (input : Stored) (output : ℕ → List ℕ) (common_bytes : Option (List ℕ))
    → ReadBack scope docs rule input output common_bytes → (file : ℕ) (doc : Doc ℕ) → Nth 0 docs file doc
    → changes (run_of rule docs input).move (units_of docs) file ≡ true
    → (old new common : ℕ) → old ≢ common → new ≢ common → MeanSame common_bytes old new common doc (input.bytes file) (output file)

-- and each of which nothing moves, so that it stays as it was, means what it meant
abbrev pub StayLaw : Type 0
StayLaw =
    (scope : TopScope) (docs : List (Doc ℕ)) (rule : Rule) → Each (λ doc. ArePlaced doc.units) docs → IsAlike scope (units_of docs) rule.alike
    → IsChoice (units_of docs) rule → (input : Stored) (output : ℕ → List ℕ) (common_bytes : Option (List ℕ))
    → ReadBack scope docs rule input output common_bytes → (file : ℕ) (doc : Doc ℕ) → Nth 0 docs file doc
    → changes (run_of rule docs input).move (units_of docs) file ≡ false
    → (old new common : ℕ) → old ≢ common → new ≢ common → MeanSame common_bytes old new common doc (input.bytes file) (input.bytes file)

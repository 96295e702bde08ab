-- What all files say together, from the bytes that were read to those that are read back.
use Rattle.std.specs.Prelude.{◌≡◌, ◌↔◌, ℕ, Bool, true, List, [], map, Option, Some, None}
use Rattle.dwz_def_reading.specs.Lists.{In}
use Rattle.dwz_def_reading.specs.Units.{RawUnit}
use Rattle.dwz_def_reading.specs.Values.{AreBytes}
use Rattle.dwz_def_reading.specs.Documents.{Doc, unit_map}
use Rattle.dwz_def_reading.specs.Meanings.{Common}
use Rattle.dwz_def_reading.specs.Files.{Limits, Reads, debug_info}
use Rattle.dwz_def_tops.specs.Lists.{Nth}
use Rattle.dwz_def_tops.specs.Alike.{IsAlike, TopScope}
use Rattle.dwz_def_tops.specs.Spots.{EntryName, units_of}
use Rattle.dwz_def_images.specs.Homes.{IsChoice, Rule}
use Rattle.dwz_def_reading.specs.Places.{Place, at_file}
use Rattle.dwz_def_images.specs.Units.{changes, common_units}
use Rattle.dwz_def_encoding.specs.Placing.{FitsSections}
use Rattle.dwz_def_readback.specs.Back.{AreAtOld, CanWrite, FileOver, IsPlacing, RangesBack, SameBack, SaysPlaced, SaysUnits, given_by, run_of}
use Rattle.dwz_def_readback.specs.Prunable.{IsPrunable}
use Rattle.dwz_def_readback.specs.Files.{HasCommon, HasSections, Run, Stored, common_fitted, common_sections, fitted, paths, sections_of, texts}

-- the file with these bytes and units reads, and says a document; and the answer is whether it is prunable
pub record FileReads (bytes : List ℕ) (raw : List RawUnit) (prunes : Bool) (doc : Doc ℕ) : Type 0 where
  pub limits : Limits
  pub reads : Reads limits bytes raw doc
  pub are_bytes : AreBytes (debug_info bytes)
  pub prunable : (prunes ≡ true) ↔ IsPrunable bytes doc.units

-- each file reads, and says the document with its number
abbrev pub AreRead : Stored → List (Doc ℕ) → Type 0
AreRead input docs = (file : ℕ) (doc : Doc ℕ) → Nth 0 docs file doc → FileReads (input.bytes file) (input.raw file) (input.prunes file) doc

-- each file of which something moves has room for its operands
abbrev pub AreOver : Run → Type 0
AreOver r = (file : ℕ) → In file r.files → changes r.move r.units file ≡ true → FileOver r file

-- the common file was made so; or there is none, and nothing is to stand in it
abbrev pub CommonMade : Run → Option (List ℕ) → Type 0
CommonMade r None = common_units r.move ≡ []
CommonMade r (Some bytes) = HasCommon bytes (common_sections r) (texts r) (paths r) × FitsSections (common_sections r)

-- the common file, if there is one, and each file of which something moves, were made so
pub record AreMade (r : Run) (output : ℕ → List ℕ) (common_bytes : Option (List ℕ)) : Type 0 where
  pub common : CommonMade r common_bytes
  pub file : (file : ℕ) → In file r.files → changes r.move r.units file ≡ true → HasSections r file (output file)
  pub file_fits : (file : ℕ) → In file r.files → changes r.move r.units file ≡ true → FitsSections (sections_of r file)

-- a file that stays as it was read says with a common file what it said by itself
pub record SaysStill (common : Option (Common Place)) (file : ℕ) (bytes : List ℕ) (doc : Doc ℕ) : Type 0 where
  pub raw : List RawUnit
  pub says : SaysUnits common file bytes raw (map (unit_map (at_file file)) doc.units)

-- the common file, if there is one, says its units, at these places; and then it gives its entries and texts to the others
abbrev pub CommonSays : Run → (EntryName → Place) → Option (List ℕ) → Type 0
CommonSays r g None = common_units r.move ≡ []
CommonSays r g (Some bytes) = SaysPlaced r g None r.common bytes (common_fitted r)

abbrev pub given_if : (r : Run) (g : EntryName → Place) (bytes : Option (List ℕ)) → CommonSays r g bytes → Option (Common Place)
given_if r g None says = None
given_if r g (Some bytes) says = Some (given_by r.common bytes says.raw)

-- The common file says its units, at these places; with it, or without one, each file of which something moves says its own, and has its
-- address ranges, and a file that stays as it was read says what it said. All files together say the same as what was read.
pub record AllBack (scope : TopScope) (docs : List (Doc ℕ)) (rule : Rule) (input : Stored) (output : ℕ → List ℕ)
    (common_bytes : Option (List ℕ))
    (g : EntryName → Place) : Type 0 where
  pub common : CommonSays (run_of rule docs input) g common_bytes
  pub file : (file : ℕ) → In file (run_of rule docs input).files → changes (run_of rule docs input).move (units_of docs) file ≡ true
      → SaysPlaced (run_of rule docs input) g (given_if (run_of rule docs input) g common_bytes common) file (output file)
      (fitted (run_of rule docs input) file)
  pub ranges : (number : ℕ) → (there : In number (run_of rule docs input).files)
      → (changed : changes (run_of rule docs input).move (units_of docs) number ≡ true)
      → RangesBack (run_of rule docs input) number (output number) (file number there changed).raw
  pub still : (file : ℕ) (doc : Doc ℕ) → Nth 0 docs file doc
      → SaysStill (given_if (run_of rule docs input) g common_bytes common) file (input.bytes file) doc
  pub same : SameBack scope docs rule input g

-- so it is at some places for names: those where they are written, and in files of which nothing moves the old ones
pub record ReadBack (scope : TopScope) (docs : List (Doc ℕ)) (rule : Rule) (input : Stored) (output : ℕ → List ℕ)
    (common_bytes : Option (List ℕ)) : Type 0 where
  pub place : EntryName → Place
  pub placing : IsPlacing (run_of rule docs input) place
  pub old : AreAtOld (run_of rule docs input) place docs
  pub back : AllBack scope docs rule input output common_bytes place

-- files that read can be written
abbrev pub CanWriteLaw : Type 0
CanWriteLaw =
    (scope : TopScope) (docs : List (Doc ℕ)) (input : Stored) → AreRead input docs → (rule : Rule)
    → IsAlike scope (units_of docs) rule.alike
    → IsChoice (units_of docs) rule
    → AreOver (run_of rule docs input) → CanWrite (run_of rule docs input)

-- and what was made of them reads back as all that was read
abbrev pub AllBackLaw : Type 0
AllBackLaw =
    (scope : TopScope) (docs : List (Doc ℕ)) (input : Stored) → AreRead input docs → (rule : Rule)
    → IsAlike scope (units_of docs) rule.alike
    → IsChoice (units_of docs) rule
    → AreOver (run_of rule docs input) → (output : ℕ → List ℕ) (common : Option (List ℕ)) → AreMade (run_of rule docs input) output common
    → ReadBack scope docs rule input output common

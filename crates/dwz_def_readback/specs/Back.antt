-- What files say that are read back with a common file.
use Rattle.std.specs.Prelude.{◌≡◌, ◌↔◌, ℕ, suc, ◌<◌, ◌^◌, Bool, true, false, List, [], ◌∷◌, ◌++◌, length, map, Option, Some, None}
use Rattle.dwz_def_reading.specs.Documents.{Doc, DwUnit, unit_map}
use Rattle.dwz_def_reading.specs.ElfFaults.{IsElfFaultFor, read_back}
use Rattle.dwz_def_reading.specs.Entries.{Mode}
use Rattle.dwz_def_reading.specs.Files.{HaveGoodRanges, Limits, Reads, debug_abbrev, debug_aranges, debug_info, is_place_of, section_of, sources_of}
use Rattle.dwz_def_reading.specs.Lists.{Each, In}
use Rattle.dwz_def_reading.specs.Meanings.{Around, Common, MeanUnits, Sources, all_places, text_sections_of}
use Rattle.dwz_def_reading.specs.Units.{RawUnit, SpellsUnits}
use Rattle.dwz_def_reading.specs.Values.{AreBytes}
use Rattle.dwz_def_tops.specs.Lists.{NoneTwice, Nth}
use Rattle.dwz_def_tops.specs.Seen.{IsPartial, SameAlong}
use Rattle.dwz_def_tops.specs.Shown.{OnePlace, UnitsShown, units_keys}
use Rattle.dwz_def_tops.specs.Alike.{Apart, IsAlike, TopScope}
use Rattle.dwz_def_tops.specs.Spots.{EntryName, file_numbers, units_of}
use Rattle.dwz_def_images.specs.Homes.{IsChoice, Rule, moves}
use Rattle.dwz_def_images.specs.Moves.{Move, plan}
use Rattle.dwz_def_images.specs.Plan.{image}
use Rattle.dwz_def_images.specs.After.{ArePlaced, units_placed_from}
use Rattle.dwz_def_tops.specs.UnitNames.{name_of_place}
use Rattle.dwz_def_reading.specs.Places.{Place, at_file}
use Rattle.dwz_def_images.specs.Images.{IsAlone, OneImage}
use Rattle.dwz_def_images.specs.Units.{all_units, changes, common_units, out_units}
use Rattle.dwz_def_encoding.specs.Bases.{bases_in}
use Rattle.dwz_def_encoding.specs.Carried.{BasesStand, CarriedUnit, ClosedIn, From, OfAny, OfFile, OperandsStand}
use Rattle.dwz_def_encoding.specs.Fitting.{UnitHasRoom, all_forms}
use Rattle.dwz_def_encoding.specs.Meant.{Tells, all_entry_keys, placed_units}
use Rattle.dwz_def_encoding.specs.Placing.{FitsSections, Forms, fit_units}
use Rattle.dwz_def_encoding.specs.Writing.{Numbering}
use Rattle.dwz_def_readback.specs.Files.{CommonFile, Finished, HasCommon, HasSections, Made, Run, Stands, Stored, common_fitted, common_fitted_by, common_forms}
use Rattle.dwz_def_readback.specs.Files.{common_sections, file_forms_by, fitted, fitted_by, formed_by, name_after, paths, place_of, places}
use Rattle.dwz_def_readback.specs.Files.{HasSectionsBy, place_of_by, sections_by}
use Rattle.dwz_def_readback.specs.Files.{places_by, sections_of, sources, tells, tells_by, tells_common, texts}
use Rattle.dwz_def_encoding.specs.Pruned.{UnitStays, known_slots}
use Rattle.dwz_def_readback.specs.Prunable.{IsPrunable}
use Rattle.dwz_def_reading.specs.NamedLists.{lists_of_units}
use Rattle.dwz_def_reading.specs.Shared.{NoneShared}
use Rattle.dwz_def_reading.specs.Patching.{of_units}
use Rattle.dwz_def_reading.specs.Ranges.{RangeSet, SpellsSets}
pub use Rattle.dwz_def_reading.specs.Finished.{around_in, given_by}

-- ---- the relation: what a file says

-- The file with a number has no fault of an ELF file that is read back; its units, of which some may be partial, with the forms that lead
-- to a common file, are spelled, and mean these. Each set of address ranges is of one of the units that aren't partial; and no location
-- list shares a byte with an operand of another. No limit on depth or on entries is asked of it.
pub record SaysUnits (common : Option (Common Place)) (number : ℕ) (bytes : List ℕ) (raw : List RawUnit)
    (units : List (DwUnit Place)) : Type 0 where
  pub elf : (f : _) → IsElfFaultFor read_back bytes f → ⊥
  pub mode : Mode
  pub whole : mode.whole ≡ true
  pub partial : mode.partial ≡ true
  pub forms : mode.forms ≡ all_forms
  pub spelled : SpellsUnits (debug_abbrev bytes) mode 0 raw 0 (debug_info bytes)
  pub means : MeanUnits (around_in common number bytes raw) raw units
  pub ranges : HaveGoodRanges bytes raw
  pub lists : NoneShared (lists_of_units (around_in common number bytes raw) raw)

-- ---- what is asked of a run, so that what it writes reads back

-- roots say of slots and of a line table what the units said that values come from; location lists shared nothing; and operands name
-- entries as their numbers are counted, and have room for these
pub record StandOver (f : Forms EntryName) (t : Tells EntryName) (n : Numbering EntryName) (units : List (DwUnit EntryName)) : Type 0 where
  pub bases : Each (BasesStand f) units
  pub lists : NoneShared t.named
  pub operands : Each (OperandsStand t) units
  pub room : Each (UnitHasRoom n) (fit_units f units)

-- each value of these units was read in such files, in the unit that it is said to come from; each reference names an entry of the
-- file, or of the common file
pub record IsReady (from : From) (f : Forms EntryName) (t : Tells EntryName) (n : Numbering EntryName) (units : List (DwUnit EntryName)) :
    Type 0 where
  pub carried : Each (λ u. CarriedUnit from (f.origin u.at) u) units
  pub closed : ClosedIn t units
  pub over : StandOver f t n units

-- What is asked of a file of which something moves: that operands have room for the numbers of what they name; where one has not, the
-- run is refused.
abbrev pub FileOverBy : CommonFile → Run → ℕ → Type 0
FileOverBy k r file = Each (UnitHasRoom (places_by k r)) (fitted_by k r file)

abbrev pub FileOver : Run → ℕ → Type 0
FileOver = FileOverBy Made

-- each unit of a file that was read stands after, as no partial unit, at its name
pub record StandsAfter (r : Run) (file place : ℕ) : Type 0 where
  pub unit : DwUnit EntryName
  pub there : In unit (out_units r.move r.units file)
  pub kind : IsPartial unit.kind → ⊥
  pub at : unit.at ≡ name_after r file place

abbrev pub AllStandAfter : Run → ℕ → Type 0
AllStandAfter r file = (place : ℕ) → is_place_of (r.input.raw file) place ≡ true → StandsAfter r file place

-- the names of one that stands already are those of what is in it, and each has its place
pub record HasItsNames (c : Finished) (r : Run) : Type 0 where
  pub rows : map (λ row. row.0) c.rows ≡ units_keys c.units
  pub names : units_keys c.units ≡ units_keys (common_units r.move)

-- the units of a common file that is made are ready
abbrev pub CommonReady : CommonFile → Run → Type 0
CommonReady Made r = IsReady OfAny (common_forms r) (tells_common r) (places r) (common_units r.move)
CommonReady (Stands c) r = HasItsNames c r

-- no name stands twice, and the units of each file of which something moves, and of the common file, are ready; its texts are few, and
-- values of one that is prunable say the same where texts move
pub record CanWriteBy (k : CommonFile) (r : Run) : Type 0 where
  pub apart : NoneTwice (units_keys (all_units r.move r.units r.files))
  pub file : (file : ℕ) → In file r.files → changes r.move r.units file ≡ true
      → IsReady (OfFile (sources r file)) (file_forms_by k r file) (tells_by k r file) (places_by k r) (out_units r.move r.units file)
  pub few : (file : ℕ) → In file r.files → length (sources r file).strs < 2 ^ 32
  pub stay : (file : ℕ) → In file r.files → changes r.move r.units file ≡ true → r.input.prunes file ≡ true
      → Each (UnitStays (text_sections_of (sources r file)) (sources r file).line (known_slots (sources r file).offsets)) (formed_by k r
      file)
  pub units : (file : ℕ) → In file r.files → AllStandAfter r file
  pub common : CommonReady k r

abbrev pub CanWrite : Run → Type 0
CanWrite = CanWriteBy Made

-- places for the names of a run: in the common file, and in each file of which something moves, those where they are written
pub record IsPlacingBy (k : CommonFile) (r : Run) (g : EntryName → Place) : Type 0 where
  pub common : (s : EntryName) → In s (units_keys (common_fitted_by k r)) → at_file r.common ((places_by k r).place s) ≡ g s
  pub written : (file : ℕ) → In file r.files → changes r.move r.units file ≡ true → (s : EntryName) → In s (units_keys (fitted_by k r file))
      → at_file file ((places_by k r).place s) ≡ g s

abbrev pub IsPlacing : Run → (EntryName → Place) → Type 0
IsPlacing = IsPlacingBy Made

-- the file says these units, at the places of their names, which are the places of all its entries
pub record SaysPlacedBy (k : CommonFile) (r : Run) (g : EntryName → Place) (common : Option (Common Place)) (number : ℕ) (bytes : List ℕ)
    (units : List (DwUnit EntryName)) : Type 0 where
  pub raw : List RawUnit
  pub says : SaysUnits common number bytes raw (placed_units (places_by k r) g units)
  pub entries : all_places raw ≡ map (places_by k r).place (all_entry_keys units)

abbrev pub SaysPlaced : Run → (EntryName → Place) → Option (Common Place) → ℕ → List ℕ → List (DwUnit EntryName) → Type 0
SaysPlaced = SaysPlacedBy Made

-- ---- laws

-- where each name stands once, the places where names are written are such places
abbrev pub PlacingLaw : Type 0
PlacingLaw = (r : Run) → NoneTwice (units_keys (all_units r.move r.units r.files)) → IsPlacing r (place_of r)

-- a common file that was made so says its units, at their places
abbrev pub CommonBackLaw : Type 0
CommonBackLaw =
    (r : Run) (g : EntryName → Place) (out : List ℕ) → CanWrite r → IsPlacing r g → HasCommon out (common_sections r) (texts r) (paths r)
    → FitsSections (common_sections r)
    → SaysPlaced r g None r.common out (common_fitted r)

-- a file that was made so says its units, at their places, where it is read with the common file that was
abbrev pub FileBackLaw : Type 0
FileBackLaw =
    (r : Run) (g : EntryName → Place) (out common : List ℕ) → CanWrite r → IsPlacing r g
    → HasCommon common (common_sections r) (texts r) (paths r)
    → FitsSections (common_sections r) → (c : SaysPlaced r g None r.common common (common_fitted r))
    → (file : ℕ) → In file r.files → changes r.move r.units file ≡ true → HasSections r file out → FitsSections (sections_of r file)
    → SaysPlaced r g (Some (given_by r.common common c.raw)) file out (fitted r file)

-- a common file that stands already says its units, at the places of their names; no place, and no text, is too far
pub record GivesCommon (c : Finished) (r : Run) (g : EntryName → Place) : Type 0 where
  pub says : SaysPlacedBy (Stands c) r g None r.common c.bytes c.units
  pub low : (s : EntryName) → In s (all_entry_keys c.units) → (places_by (Stands c) r).place s < 2 ^ 32
  pub small : length (section_of c.bytes 3) < 2 ^ 32

-- a file that was made so over it says its units, at their places, where it is read with it
abbrev pub FileOverLaw : Type 0
FileOverLaw =
    (c : Finished) (r : Run) (g : EntryName → Place) (out : List ℕ) → CanWriteBy (Stands c) r → IsPlacingBy (Stands c) r g
    → (common : GivesCommon c r g) → (file : ℕ) → In file r.files → changes r.move r.units file ≡ true → HasSectionsBy (Stands c) r file out
    → FitsSections (sections_by (Stands c) r file)
    → SaysPlacedBy (Stands c) r g (Some (given_by r.common c.bytes common.says.raw)) file out (fitted_by (Stands c) r file)

-- each set of address ranges is of the unit of which it was, where that stands after
pub record RangesBackBy (k : CommonFile) (r : Run) (file : ℕ) (out : List ℕ) (raw : List RawUnit) : Type 0 where
  pub sets : List RangeSet
  pub before : SpellsSets (is_place_of (r.input.raw file)) sets 0 (debug_aranges (r.input.bytes file))
  pub after : SpellsSets (is_place_of raw) (of_units sets (map (λ s. (places_by k r).place (name_after r file s.unit)) sets)) 0
      (debug_aranges out)

abbrev pub RangesBack : Run → ℕ → List ℕ → List RawUnit → Type 0
RangesBack = RangesBackBy Made

-- so it is over a common file that stands already
abbrev pub RangesOverLaw : Type 0
RangesOverLaw =
    (c : Finished) (r : Run) (g : EntryName → Place) (common : Option (Common Place)) (out : List ℕ) → CanWriteBy (Stands c) r
    → IsPlacingBy (Stands c) r g
    → (file : ℕ) → In file r.files → changes r.move r.units file ≡ true → HasSectionsBy (Stands c) r file out
    → FitsSections (sections_by (Stands c) r file)
    → (says : SaysPlacedBy (Stands c) r g common file out (fitted_by (Stands c) r file)) → RangesBackBy (Stands c) r file out says.raw

-- the places where names are written, and where they stand, are such places
abbrev pub PlacingOverLaw : Type 0
PlacingOverLaw = (c : Finished) (r : Run) → CanWriteBy (Stands c) r → IsPlacingBy (Stands c) r (place_of_by (Stands c) r)

abbrev pub RangesBackLaw : Type 0
RangesBackLaw =
    (r : Run) (g : EntryName → Place) (common : Option (Common Place)) (out : List ℕ) → CanWrite r → IsPlacing r g
    → (file : ℕ) → In file r.files → changes r.move r.units file ≡ true → HasSections r file out → FitsSections (sections_of r file)
    → (says : SaysPlaced r g common file out (fitted r file)) → RangesBack r file out says.raw

-- and where nothing is in the common file, also by itself
abbrev pub AloneBackLaw : Type 0
AloneBackLaw =
    (r : Run) (g : EntryName → Place) (out : List ℕ) → CanWrite r → IsPlacing r g → common_units r.move ≡ []
    → (file : ℕ) → In file r.files → changes r.move r.units file ≡ true → HasSections r file out → FitsSections (sections_of r file)
    → SaysPlaced r g None file out (fitted r file)

-- ---- what all files say together

-- the run of files that say these documents, with the bytes of each
abbrev pub run_by : Move → List (Doc ℕ) → Stored → Run
run_by move docs input = record {
  move = move;
  units = units_of docs;
  files = file_numbers 0 docs;
  input = input;
  name = name_of_place docs;
  common = length docs;
}

-- what moves as a plan says
abbrev pub run_of : Rule → List (Doc ℕ) → Stored → Run
run_of rule docs input = run_by (plan rule (units_of docs) (file_numbers 0 docs)) docs input

abbrev pub back_units_by : CommonFile → Run → (EntryName → Place) → Bool → ℕ → Doc ℕ → List (DwUnit Place)
back_units_by k r g true file doc = placed_units (places_by k r) g (fitted_by k r file)
back_units_by k r g false file doc = map (unit_map (at_file file)) doc.units

abbrev pub back_units : Run → (EntryName → Place) → Bool → ℕ → Doc ℕ → List (DwUnit Place)
back_units = back_units_by Made

-- of each file what it says: its new units, or where nothing of it moves those that it said
unfoldable pub files_back_by : CommonFile → Run → (EntryName → Place) → ℕ → List (Doc ℕ) → List (DwUnit Place)
files_back_by k r g file [] = []
files_back_by k r g file (doc ∷ docs) = back_units_by k r g (changes r.move r.units file) file doc ++ files_back_by k r g (suc file) docs

abbrev pub files_back : Run → (EntryName → Place) → ℕ → List (Doc ℕ) → List (DwUnit Place)
files_back = files_back_by Made

-- with the common file
abbrev pub all_back_by : CommonFile → Run → (EntryName → Place) → List (Doc ℕ) → List (DwUnit Place)
all_back_by k r g docs = placed_units (places_by k r) g (common_fitted_by k r) ++ files_back_by k r g 0 docs

abbrev pub all_back : Run → (EntryName → Place) → List (Doc ℕ) → List (DwUnit Place)
all_back = all_back_by Made

-- and in a file of which nothing moves they are those at which its units were read, one for each name
pub record AreAtOld (r : Run) (g : EntryName → Place) (docs : List (Doc ℕ)) : Type 0 where
  pub shown : (file : ℕ) (doc : Doc ℕ) → Nth 0 docs file doc → changes r.move r.units file ≡ false
      → UnitsShown g (out_units r.move r.units file) (map (unit_map (at_file file)) doc.units)
  pub file : (file : ℕ) → In file r.files → changes r.move r.units file ≡ false → (k : EntryName)
      → In k (units_keys (out_units r.move r.units file)) → (g k).file ≡ file
  pub one : (file : ℕ) → In file r.files → changes r.move r.units file ≡ false → OnePlace g (out_units r.move r.units file)

-- what all files say, the common one among them, is the same as what was read, along images; and entries share an image exactly where
-- they move and nothing tells them apart
pub record SameBack (scope : TopScope) (docs : List (Doc ℕ)) (rule : Rule) (input : Stored) (g : EntryName → Place) : Type 0 where
  pub same : SameAlong (λ p. g (image rule (units_of docs) (name_of_place docs p))) (units_placed_from 0 docs)
      (all_back (run_of rule docs input) g docs)
  pub alone : IsAlone (units_of docs) (λ s. g (image rule (units_of docs) s))
  pub images : OneImage scope (units_of docs) (λ n. moves rule (units_of docs) n ≡ true) (λ s. g (image rule (units_of docs) s))

abbrev pub SameBackLaw : Type 0
SameBackLaw =
    (scope : TopScope) (docs : List (Doc ℕ)) (rule : Rule) → Each (λ doc. ArePlaced doc.units) docs
    → IsAlike scope (units_of docs) rule.alike
    → IsChoice (units_of docs) rule
    → (input : Stored) (g : EntryName → Place) → IsPlacing (run_of rule docs input) g → AreAtOld (run_of rule docs input) g docs
    → SameBack scope docs rule input g

-- ---- what is read

-- the places of units of a file differ, and each value was read in the file with these sections
pub record WasReadFrom (sources : Sources) (units : List (DwUnit ℕ)) : Type 0 where
  pub placed : ArePlaced units
  pub carried : Each (λ u. CarriedUnit (OfFile sources) (bases_in u) u) units

-- so is each file that reads
abbrev pub ReadLaw : Type 0
ReadLaw =
    (l : Limits) (input : List ℕ) (raw : List RawUnit) (doc : Doc ℕ) → Reads l input raw doc → AreBytes (debug_info input)
    → WasReadFrom (sources_of input) doc.units

-- after, each reference of a file names an entry of it, or of the common file
abbrev pub WithinLaw : Type 0
WithinLaw =
    (scope : TopScope) (docs : List (Doc ℕ)) (rule : Rule) → Each (λ doc. ArePlaced doc.units) docs
    → IsAlike scope (units_of docs) rule.alike
    → IsChoice (units_of docs) rule
    → (input : Stored) (file : ℕ) → ClosedIn (tells (run_of rule docs input) file)
    (out_units (run_of rule docs input).move (units_of docs) file)

-- and each of the common file an entry of that
abbrev pub CommonWithinLaw : Type 0
CommonWithinLaw =
    (scope : TopScope) (docs : List (Doc ℕ)) (rule : Rule) → Each (λ doc. ArePlaced doc.units) docs
    → IsAlike scope (units_of docs) rule.alike
    → IsChoice (units_of docs) rule
    → (input : Stored) → ClosedIn (tells_common (run_of rule docs input)) (common_units (run_of rule docs input).move)

-- ---- one file by itself

-- the file as it is stored, and whether it is prunable
abbrev pub one_stored : List ℕ → List RawUnit → Bool → Stored
one_stored input raw prunes = record { bytes = λ file. input; raw = λ file. raw; prunes = λ file. prunes }

abbrev pub one_run : Rule → Doc ℕ → List ℕ → List RawUnit → Bool → Run
one_run rule doc input raw prunes = run_of rule (doc ∷ []) (one_stored input raw prunes)

-- the file that was made from one that reads says its new units by itself, and they are the same as what was read
pub record OneBack (doc : Doc ℕ) (rule : Rule) (input : List ℕ) (raw : List RawUnit) (prunes : Bool) (out : List ℕ) : Type 0 where
  pub says : SaysPlaced (one_run rule doc input raw prunes) (place_of (one_run rule doc input raw prunes)) None 0 out
      (fitted (one_run rule doc input raw prunes) 0)
  pub same : SameBack Apart (doc ∷ []) rule (one_stored input raw prunes) (place_of (one_run rule doc input raw prunes))

abbrev pub OneBackLaw : Type 0
OneBackLaw =
    (l : Limits) (input : List ℕ) (raw : List RawUnit) (doc : Doc ℕ) → Reads l input raw doc → AreBytes (debug_info input)
    → (prunes : Bool) → ((prunes ≡ true) ↔ IsPrunable input doc.units)
    → (rule : Rule) → IsAlike Apart (units_of (doc ∷ [])) rule.alike → IsChoice (units_of (doc ∷ [])) rule
    → FileOver (one_run rule doc input raw prunes) 0
    → changes (one_run rule doc input raw prunes).move (units_of (doc ∷ [])) 0 ≡ true
    → (out : List ℕ) → HasSections (one_run rule doc input raw prunes) 0 out
    → FitsSections (sections_of (one_run rule doc input raw prunes) 0)
    → OneBack doc rule input raw prunes out

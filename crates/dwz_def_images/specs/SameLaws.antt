-- Inner: laws on units with names, before and after.
use Rattle.std.specs.Prelude.{◌≡◌, ℕ, true, false, List, [], ◌∷◌, ◌++◌, map}
use Rattle.dwz_def_reading.specs.Documents.{Doc, DwUnit, Node, OfType, unit_map}
use Rattle.dwz_def_reading.specs.Lists.{Each, In}
use Rattle.dwz_def_tops.specs.Lists.{NoneTwice, Nth, Rising}
use Rattle.dwz_def_tops.specs.Seen.{Closed, SameAlong}
use Rattle.dwz_def_tops.specs.Shown.{HaveMains, OnePlace, UnitsShown, units_keys}
use Rattle.dwz_def_tops.specs.Alike.{IsAlike, TopScope}
use Rattle.dwz_def_tops.specs.Spots.{EntryName, FileUnit, file_numbers, units_of}
use Rattle.dwz_def_plan.specs.Homes.{IsChoice, Rule, moves}
use Rattle.dwz_def_plan.specs.IsPlan.{AreFilesOf}
use Rattle.dwz_def_plan.specs.Moves.{Move, image_in, plan}
use Rattle.dwz_def_plan.specs.Plan.{image}
use Rattle.dwz_def_images.specs.Held.{IsHeld, Serves}
use Rattle.dwz_def_images.specs.Units.{all_units, changes, common_units, kept_unit, out_units, units_of_file}
use Rattle.dwz_def_images.specs.After.{AreAfter, AreAfterOf, AreOld, ArePlaced, ComesFrom, FilesSame, IsEntryOf, IsOfFile, Replaces, StandAsNamed, units_placed_from}
use Rattle.dwz_def_tops.specs.UnitNames.{name_of_place}
use Rattle.dwz_def_reading.specs.Places.{Place}
use Rattle.dwz_def_images.specs.Images.{IsAlone, OneImage, units_in}

-- ---- places and names

-- units of files whose places differ are at their names
abbrev pub NamesLaw : Type 0
NamesLaw = (docs : List (Doc ℕ)) → Each (λ doc. ArePlaced doc.units) docs → AreOld (units_of docs)

-- these names are put for the places of all files
abbrev pub PlacesLaw : Type 0
PlacesLaw = (docs : List (Doc ℕ)) → UnitsShown (name_of_place docs) (units_placed_from 0 docs) (units_in (units_of docs))

-- and the units are of the files that are counted
abbrev pub FilesLaw : Type 0
FilesLaw = (docs : List (Doc ℕ)) → AreFilesOf (units_of docs) (file_numbers 0 docs)

-- the units of the common file and of each file are all that stand after
abbrev pub AfterLaw : Type 0
AfterLaw = (units : List (FileUnit EntryName)) (rule : Rule) (files : List ℕ) → AreFilesOf units files
    → AreAfter (plan rule units files) units (all_units (plan rule units files) units files)

-- those of one file, beside those of the common file, are what stands after of this file
abbrev pub FileAfterLaw : Type 0
FileAfterLaw =
    (units : List (FileUnit EntryName)) (rule : Rule) (files : List ℕ) (file : ℕ)
    → AreAfterOf (IsOfFile units file) (plan rule units files) units
    (out_units (plan rule units files) units file ++ common_units (plan rule units files))

-- a file of which nothing moves has its units and no others, with the names that they had
abbrev pub StillLaw : Type 0
StillLaw =
    (scope : TopScope) (docs : List (Doc ℕ)) (rule : Rule) → IsAlike scope (units_of docs) rule.alike → IsChoice (units_of docs) rule
    → (files : List ℕ) (file : ℕ)
    → changes (plan rule (units_of docs) files) (units_of docs) file ≡ false
    → out_units (plan rule (units_of docs) files) (units_of docs) file ≡ units_of_file file (units_of docs)

-- it stands at its old places
abbrev pub StandsLaw : Type 0
StandsLaw =
    (scope : TopScope) (docs : List (Doc ℕ)) (rule : Rule) → Each (λ doc. ArePlaced doc.units) docs
    → IsAlike scope (units_of docs) rule.alike
    → IsChoice (units_of docs) rule
    → (files : List ℕ) → Rising files → (file : ℕ) (doc : Doc ℕ) → Nth 0 docs file doc
    → changes (plan rule (units_of docs) files) (units_of docs) file ≡ false
    → StandAsNamed (out_units (plan rule (units_of docs) files) (units_of docs) file) doc.units

-- no name stands twice among the units after
abbrev pub ApartLaw : Type 0
ApartLaw = (units : List (FileUnit EntryName)) (rule : Rule) → AreOld units → (files : List ℕ) → Rising files
    → NoneTwice (units_keys (all_units (plan rule units files) units files))

-- the plan is a move as is asked, in any scope, for any choice
abbrev pub HeldLaw : Type 0
HeldLaw =
    (scope : TopScope) (units : List (FileUnit EntryName)) (rule : Rule) (files : List ℕ) → IsAlike scope units rule.alike
    → IsChoice units rule
    → AreOld units → AreFilesOf units files
    → IsHeld units (plan rule units files)

-- the partial units of a move that is as is asked serve their users
abbrev pub ServesLaw : Type 0
ServesLaw = (units : List (FileUnit EntryName)) (m : Move) → AreOld units → IsHeld units m → Serves units m

-- and wherever they do, entries and units are the same along images, whether or not these partial units stood before
abbrev pub ServedLaw : Type 0
ServedLaw =
    (units : List (FileUnit EntryName)) (m : Move) (outs : List (DwUnit EntryName)) → AreOld units → Serves units m → AreAfter m units outs
    → SameAlong (image_in m) (units_in units) outs

-- so is each unit of a file with what stands after of this file alone: its units, and the partial units that they use
abbrev pub ServedFileLaw : Type 0
ServedFileLaw =
    (units : List (FileUnit EntryName)) (m : Move) (outs : List (DwUnit EntryName)) (file : ℕ) → AreOld units → Serves units m
    → AreAfterOf (IsOfFile units file) m units outs
    → (i : ℕ) (u : FileUnit EntryName) → Nth 0 units i u → u.file ≡ file → SameAlong (image_in m) (u.unit ∷ []) outs

-- ---- what stands after any move

-- P holds of units before, a move, and the units that replace the ones before
abbrev Always : (List (FileUnit EntryName) → Move → List (DwUnit EntryName) → Type 0) → Type 0
Always P = (units : List (FileUnit EntryName)) (m : Move) (outs : List (DwUnit EntryName)) → Replaces units m outs → P units m outs

-- each entry is an old one with its places replaced by their images, or an import, or the root of a partial unit or a space of one
abbrev pub EntriesLaw : Type 0
EntriesLaw = Always (λ units m outs. (v : DwUnit EntryName) → In v outs → (e : Node EntryName) → IsEntryOf e v → ComesFrom m units e)

-- a type unit is kept with its places replaced
abbrev pub TypesLaw : Type 0
TypesLaw =
    (units : List (FileUnit EntryName)) (m : Move) → AreOld units → (i : ℕ) (u : FileUnit EntryName) → Nth 0 units i u
    → (signature : ℕ) (main : EntryName) → u.unit.kind ≡ OfType signature main → kept_unit m units i u ≡ unit_map (image_in m) u.unit

-- entries and units are the same along images
abbrev pub SameLaw : Type 0
SameLaw = Always (λ units m outs. SameAlong (image_in m) (units_in units) outs)

-- each reference names an entry
abbrev pub ClosedLaw : Type 0
ClosedLaw = Always (λ units m outs. Closed outs)

-- and the type of a type unit is an entry of it
abbrev pub MainsLaw : Type 0
MainsLaw = Always (λ units m outs. HaveMains outs)

-- entries have one image exactly where they move and nothing tells them apart
abbrev pub ImagesLaw : Type 0
ImagesLaw =
    (scope : TopScope) (units : List (FileUnit EntryName)) (rule : Rule) → IsAlike scope units rule.alike → IsChoice units rule
    → OneImage scope units (λ n. moves rule units n ≡ true) (image rule units)

-- and an entry in no top shares its image with no other
abbrev pub AloneLaw : Type 0
AloneLaw = (units : List (FileUnit EntryName)) (rule : Rule) → IsAlone units (image rule units)

-- ---- with places for names

-- units with places put for names are shown so
abbrev pub ShownLaw : Type 0
ShownLaw = (g : EntryName → Place) (units : List (DwUnit EntryName)) → UnitsShown g units (map (unit_map g) units)

-- they are the same too along the places of images, where no two names have one place
abbrev pub PlacedLaw : Type 0
PlacedLaw =
    Always (λ units m outs. (g : EntryName → Place) (placed : List (DwUnit Place)) → UnitsShown g outs placed → OnePlace g outs
    → SameAlong (λ s. g (image_in m s)) (units_in units) placed)

-- all of it holds of files at once, with the common file, where their places differ
abbrev pub FilesSameLaw : Type 0
FilesSameLaw =
    (scope : TopScope) (docs : List (Doc ℕ)) (rule : Rule) → Each (λ doc. ArePlaced doc.units) docs
    → IsAlike scope (units_of docs) rule.alike
    → IsChoice (units_of docs) rule
    → FilesSame scope docs rule (file_numbers 0 docs)

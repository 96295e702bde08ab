-- Inner: some of the files of a run.
use Rattle.std.specs.Prelude.{◌≡◌, ℕ, List, ◌∷◌, map}
use Rattle.dwz_def_reading.specs.Documents.{Doc}
use Rattle.dwz_def_reading.specs.Lists.{Each, In}
use Rattle.dwz_def_tops.specs.Alike.{IsAlike, TopScope}
use Rattle.dwz_def_tops.specs.Spots.{EntryName, file_numbers, same_spot, units_of}
use Rattle.dwz_def_tops.specs.Lists.{NoneTwice}
use Rattle.dwz_def_tops.specs.Shown.{units_keys}
use Rattle.dwz_def_images.specs.Homes.{IsChoice, Rule}
use Rattle.dwz_def_images.specs.After.{ArePlaced}
use Rattle.dwz_def_images.specs.Units.{all_units}
use Rattle.dwz_def_encoding.specs.Fitting.{UnitHasRoom}
use Rattle.dwz_def_encoding.specs.Placing.{FileOut, files_keys, numbering, sections}
use Rattle.dwz_def_encoding.specs.Writing.{Numbering}
use Rattle.dwz_def_readback.specs.Back.{run_of}
use Rattle.dwz_def_readback.specs.Files.{Run, Stored, common_out, file_out, files_out, places}
use Rattle.dwz_def_readback.specs.Fewer.{AgreeOn, AreSome, NameOnly}

-- the common file and these files, as they are written
abbrev pub some_out : Run → List ℕ → List (FileOut EntryName)
some_out r some = common_out r ∷ map (file_out r) some

-- where their names stand, each in its own file
abbrev pub some_places : Run → List ℕ → Numbering EntryName
some_places r some = numbering same_spot (some_out r some)

-- these are files of the run
abbrev pub SomeInRunLaw : Type 0
SomeInRunLaw = (r : Run) (some : List ℕ) → AreSome some r.files → (f : FileOut EntryName) → In f (some_out r some) → In f (files_out r)

-- where no name stands twice in all units after, none does in those of some files
abbrev pub OnceInRunLaw : Type 0
OnceInRunLaw =
    (r : Run) (some : List ℕ) → AreSome some r.files → NoneTwice (units_keys (all_units r.move r.units r.files))
    → NoneTwice (files_keys (some_out r some))

-- and then each has the place that it has among all
abbrev pub PlacesInRunLaw : Type 0
PlacesInRunLaw =
    (r : Run) (some : List ℕ) → AreSome some r.files → NoneTwice (units_keys (all_units r.move r.units r.files))
    → AgreeOn (files_keys (some_out r some)) (some_places r some) (places r)

-- what these files and the common one name stands in one of them
abbrev pub NamesInRunLaw : Type 0
NamesInRunLaw =
    (scope : TopScope) (docs : List (Doc ℕ)) (rule : Rule) → Each (λ doc. ArePlaced doc.units) docs
    → IsAlike scope (units_of docs) rule.alike → IsChoice (units_of docs) rule
    → (input : Stored) (some : List ℕ) → AreSome some (file_numbers 0 docs)
    → (f : FileOut EntryName) → In f (some_out (run_of rule docs input) some)
    → NameOnly (files_keys (some_out (run_of rule docs input) some)) f.units

-- so each has the sections that it has among all files
abbrev pub SectionsInRunLaw : Type 0
SectionsInRunLaw =
    (scope : TopScope) (docs : List (Doc ℕ)) (rule : Rule) → Each (λ doc. ArePlaced doc.units) docs
    → IsAlike scope (units_of docs) rule.alike → IsChoice (units_of docs) rule
    → (input : Stored) (some : List ℕ) → AreSome some (file_numbers 0 docs)
    → (f : FileOut EntryName) → In f (some_out (run_of rule docs input) some)
    → sections (some_places (run_of rule docs input) some) f.units ≡ sections (places (run_of rule docs input)) f.units

-- and operands that have room there have it among all files
abbrev pub RoomInRunLaw : Type 0
RoomInRunLaw =
    (scope : TopScope) (docs : List (Doc ℕ)) (rule : Rule) → Each (λ doc. ArePlaced doc.units) docs
    → IsAlike scope (units_of docs) rule.alike → IsChoice (units_of docs) rule
    → (input : Stored) (some : List ℕ) → AreSome some (file_numbers 0 docs)
    → (f : FileOut EntryName) → In f (some_out (run_of rule docs input) some)
    → Each (UnitHasRoom (some_places (run_of rule docs input) some)) f.units → Each (UnitHasRoom (places (run_of rule docs input))) f.units

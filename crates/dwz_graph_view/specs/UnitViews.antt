-- Units by their numbers among those of all files, and what is shown of one.
use Rattle.std.specs.Prelude.{◌≡◌, ℕ, suc, List, [], ◌∷◌, ◌++◌, map, Some, slice_get}
use Rattle.dwz_model.specs.declared.place.Place.{Place}
use Rattle.dwz_model.specs.declared.place.UnitKind.{UnitKind}
use Rattle.dwz_model.specs.declared.place.UnitKind.TheVariants.{Compile as IsCompile, TypeUnit}
use Rattle.dwz_def_reading.specs.Documents.{Compile, Doc, Kind, OfType, Partial, language}
use Rattle.dwz_def_tops.specs.Spots.{FileUnit, in_file}
use Rattle.dwz_graph_view.specs.declared.unit_views.UnitView.{UnitView}

-- the units of files, the first of which has that number, each with the number of its file
unfoldable pub units_from : ℕ → List (Doc ℕ) → List (FileUnit ℕ)
units_from file [] = []
units_from file (doc ∷ docs) = map (in_file file) doc.units ++ units_from (suc file) docs

-- the units of all files in order: the number of a unit is its index
abbrev pub all_units : List (Doc ℕ) → List (FileUnit ℕ)
all_units docs = units_from 0 docs

-- an offset in `.debug_info` of a file
abbrev pub place_in : ℕ → ℕ → Place
place_in file offset = record { file = file; offset = offset }

-- a compile unit, or a type unit with the type that it describes, in that file; no file that is read has another kind (7.5.1)
abbrev pub ShowsKind : ℕ → Kind ℕ → UnitKind → Type 0
ShowsKind file Compile shown = shown ≡ IsCompile
ShowsKind file (OfType signature main) shown = shown ≡ TypeUnit signature (place_in file main)
ShowsKind file Partial shown = ⊥

-- what is shown of a unit: where it begins, its kind, its language (3.1.1), and where its root begins
pub record ShowsUnit (u : FileUnit ℕ) (shown : UnitView) : Type 0 where
  pub place : shown.place ≡ place_in u.file u.unit.at
  pub kind : ShowsKind u.file u.unit.kind shown.kind
  pub language_is : shown.language ≡ language u.unit
  pub root : shown.root ≡ place_in u.file u.unit.root.at

-- the unit with that number is shown
pub record IsUnit (docs : List (Doc ℕ)) (n : ℕ) (shown : UnitView) : Type 0 where
  pub unit : FileUnit ℕ
  pub there : slice_get (all_units docs) n ≡ Some unit
  pub shows : ShowsUnit unit shown

-- Inner: where a unit is found by its number among those of all files.
use Rattle.std.specs.Prelude.{◌≡◌, ℕ, ◌+◌, ◌<◌, List, Some, length, map, slice_get}
use Rattle.dwz_model.specs.declared.place.UnitKind.{UnitKind}
use Rattle.dwz_model.specs.declared.place.UnitKind.TheVariants.{Compile, TypeUnit}
use Rattle.dwz_def_reading.specs.Documents.{Doc}
use Rattle.dwz_def_tops.specs.Spots.{in_file}
use Rattle.dwz_graph.specs.Files.{docs_of}
use Rattle.dwz_unit.specs.declared.rows.RawUnit.{RawUnit}
use Rattle.dwz_graph_view.specs.UnitViews.{all_units, place_in}

-- the unit with number n among those of all files has number k in that file
pub record HasUnit (contents : List (List ℕ)) (n file k : ℕ) : Type 0 where
  pub doc : Doc ℕ
  pub there : slice_get (docs_of contents) file ≡ Some doc
  pub within : k < length doc.units
  pub same : slice_get (all_units (docs_of contents)) n ≡ slice_get (map (in_file file) doc.units) k

-- the kind of a unit as it is stored
pub record IsShownKind (file : ℕ) (u : RawUnit) (shown : UnitKind) : Type 0 where
  pub type_unit : u.kind ≡ 2 → shown ≡ TypeUnit u.signature (place_in file (u.at + u.type_offset))
  pub other : (u.kind ≡ 2 → ⊥) → shown ≡ Compile

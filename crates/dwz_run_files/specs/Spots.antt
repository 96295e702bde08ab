-- Where entries and units of a file stand after.
use Rattle.std.specs.Prelude.{◌≡◌, ℕ, ◌+◌, ◌-◌, true, List, [], ◌∷◌, Some, slice_get, slice_index}
use Rattle.dwz_def_reading.specs.Units.{RawUnit, entry_count, header_size}
use Rattle.dwz_def_images.specs.Units.{changes}
use Rattle.dwz_unit.specs.Rows.{units_of as raw_units}
use Rattle.dwz_graph.specs.declared.file.File.{File}
use Rattle.dwz_graph.specs.Index.{Index}
use Rattle.dwz_graph.specs.EntryCounts.{starts_from}
use Rattle.dwz_layout.specs.declared.known.EntryTable.{EntryTable}
use Rattle.dwz_layout.specs.declared.order.UnitItems.{UnitItems}
use Rattle.dwz_law_layout.specs.Beside.{Beside}
use Rattle.dwz_law_layout.specs.Facts.{HasFile, RunFacts, move, units}
use Rattle.dwz_law_layout.specs.Listed.{TextsAt}
use Rattle.dwz_law_layout.specs.Either.{laid_by}
use Rattle.dwz_run_files.specs.Prepared.{CanLay}
use Rattle.dwz_encode_operands.specs.NumberLaws.{ArePlaces, AreUnitPlaces}

-- a unit begins so many bytes before its root as its header has (DWARF 5, 7.5.1)
abbrev pub unit_before : ℕ → RawUnit → ℕ
unit_before root u = root - header_size u.kind

-- Where units begin, of which the first has a root with that number: places are those of entries by their numbers, and the root of a unit
-- comes behind all entries of the units before it.
unfoldable pub unit_places_from : ℕ → List ℕ → List RawUnit → List ℕ
unit_places_from first places [] = []
unit_places_from first places (u ∷ units) =
    unit_before (slice_index places first) u ∷ unit_places_from (first + entry_count u) places units

-- ---- laws

-- P holds of each file of which something moves, where what is written can be laid
abbrev pub OfWritten : ((beside : Beside) → RunFacts beside → EntryTable → List (List UnitItems) → ℕ → File → Index → Type 0) → Type 0
OfWritten P =
    (beside : Beside) (f : RunFacts beside) (t : TextsAt) (k : EntryTable) (orders : List (List UnitItems)) → CanLay f t k orders
    → (n : ℕ) (bytes : List ℕ) (x : File) (index : Index) → HasFile f n bytes x index → changes (move f) (units f) n ≡ true
    → P beside f k orders n x index

-- what stands after for an entry of the file stands at its place of the layout
abbrev pub EntryPlacesLaw : Type 0
EntryPlacesLaw = OfWritten (λ beside f k orders n x index. ArePlaces f n (raw_units x.units) (laid_by beside k orders).places)

-- so each unit of the file begins before its root
abbrev pub UnitPlacesLaw : Type 0
UnitPlacesLaw = OfWritten (λ beside f k orders n x index. (start : ℕ) → slice_get (starts_from 0 f.indexes) n ≡ Some start
    → AreUnitPlaces f index.starts.unit (raw_units x.units) (unit_places_from start (laid_by beside k orders).places (raw_units x.units)))

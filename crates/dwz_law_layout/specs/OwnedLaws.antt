-- In which unit, and in which file, an entry is written, by the numbers of units.
use Rattle.std.specs.Prelude.{◌≡◌, ◌⊎◌, ℕ, true, ◌==◌, Some, slice_get}
use Rattle.dwz_def_reading.specs.Lists.{In}
use Rattle.dwz_def_reading.specs.Documents.{DwUnit, Node}
use Rattle.dwz_def_tops.specs.Lists.{Nth}
use Rattle.dwz_def_tops.specs.Deciding.{same_bool}
use Rattle.dwz_def_tops.specs.Spots.{EntryName}
use Rattle.dwz_def_images.specs.Homes.{Common, Local}
use Rattle.dwz_def_images.specs.Plan.{PartialUnit}
use Rattle.dwz_def_images.specs.Units.{changes, common_units, out_units, partial_unit}
use Rattle.dwz_def_encoding.specs.Placing.{UnitForms, has_key}
use Rattle.dwz_unit.specs.Rows.{EntryRow}
use Rattle.dwz_layout_numbers.specs.Owners.{StandsIn}
use Rattle.dwz_layout.specs.declared.known.EntryTable.{EntryTable}
use Rattle.dwz_layout.specs.declared.order.UnitItems.{UnitItems}
use Rattle.dwz_layout.specs.Attributes.{is_common}
use Rattle.dwz_layout.specs.Entries.{row}
use Rattle.dwz_layout.specs.Known.{number_of, owner_of, unit_of_part}
use Rattle.dwz_encode.specs.Shown.{Keys}
use Rattle.dwz_law_layout.specs.Knows.{IsRead, KnowsOwners}
use Rattle.dwz_law_layout.specs.Beside.{Beside}
use Rattle.dwz_law_layout.specs.Facts.{AreFacts, RunFacts, file_read, move, units, units_written}
use Rattle.dwz_law_layout.specs.Listed.{AreListed, TextsAt}
use Rattle.dwz_law_layout.specs.Named.{keys}
use Rattle.dwz_law_layout.specs.NamedLaws.{IsItself, OfFiles, entry_name}
use Rattle.dwz_law_layout.specs.Unfitted.{common_unit_forms, file_unit_forms}

-- In a file that is written, an entry that stands for itself has its name in the unit that owns it.
abbrev pub OwnedLaw : Type 0
OwnedLaw = OfFiles (λ beside f k n bytes x. changes (move f) (units f) n ≡ true
    → (i : ℕ) (r : EntryRow) (d : Node ℕ) → IsRead (file_read f n bytes x) i r d → IsItself f (entry_name f n d)
    → StandsIn (units_written f) (entry_name f n d) (owner_of k (number_of k (row n i))))

-- a partial unit has its number among the units that are written
abbrev pub PartsLaw : Type 0
PartsLaw = (beside : Beside) (f : RunFacts beside) (t : TextsAt) (k : EntryTable) → AreFacts f → AreListed f t k
    → (p : ℕ) (part : PartialUnit) → Nth 0 (move f).parts p part
    → slice_get (units_written f) (unit_of_part k p) ≡ Some (partial_unit (move f) p)

-- ---- from a unit

-- From a unit of the common file: whether what an entry of a file names stands in it, and in its file, is told by owners.
abbrev pub CommonReachedLaw : Type 0
CommonReachedLaw = OfFiles (λ beside f k n bytes x. changes (move f) (units f) n ≡ true
    → (here : ℕ) (u : DwUnit EntryName) → slice_get (units_written f) here ≡ Some u → In u (common_units (move f))
    → (o : UnitItems) → KnowsOwners (keys f) k (file_read f n bytes x) here o (common_unit_forms f u))

-- so from a unit of the entry's own file
abbrev pub FileReachedLaw : Type 0
FileReachedLaw = OfFiles (λ beside f k n bytes x. changes (move f) (units f) n ≡ true
    → (here : ℕ) (u : DwUnit EntryName) → slice_get (units_written f) here ≡ Some u → In u (out_units (move f) (units f) n)
    → (o : UnitItems) → KnowsOwners (keys f) k (file_read f n bytes x) here o (file_unit_forms f n u))

-- ---- what is imported

-- whether the root of that partial unit stands in this unit, and in its file, is told by the numbers of units
pub record ReachesPart (names : Keys EntryName) (k : EntryTable) (here : ℕ) (ft : UnitForms EntryName) (part : ℕ) : Type 0 where
  pub own : has_key ft.same (names.root (unit_of_part k part)) ft.own ≡ (unit_of_part k part == here)
  pub file : has_key ft.same (names.root (unit_of_part k part)) ft.keys ≡ same_bool (is_common k (unit_of_part k part)) (is_common k here)

-- from a unit of the common file
abbrev pub CommonPartsLaw : Type 0
CommonPartsLaw = (beside : Beside) (f : RunFacts beside) (t : TextsAt) (k : EntryTable) → AreFacts f → AreListed f t k
    → (here : ℕ) (u : DwUnit EntryName) → slice_get (units_written f) here ≡ Some u → In u (common_units (move f))
    → (p : ℕ) (part : PartialUnit) → Nth 0 (move f).parts p part → ReachesPart (keys f) k here (common_unit_forms f u) p

-- from a unit of a file that is written, where the partial unit is of that file, or of the common one
abbrev pub FilePartsLaw : Type 0
FilePartsLaw = OfFiles (λ beside f k n bytes x. changes (move f) (units f) n ≡ true
    → (here : ℕ) (u : DwUnit EntryName) → slice_get (units_written f) here ≡ Some u → In u (out_units (move f) (units f) n)
    → (p : ℕ) (part : PartialUnit) → Nth 0 (move f).parts p part → (part.home ≡ Common) ⊎ (part.home ≡ Local n)
    → ReachesPart (keys f) k here (file_unit_forms f n u) p)

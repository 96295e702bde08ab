-- What is written of the partial units of a file, and of those of the common file, shows these units.
use Rattle.std.specs.Prelude.{◌≡◌, ℕ, ◌+◌, true, false, List, None, Some, length, slice_get, slice_index_or}
use Rattle.dwz_def_reading.specs.Documents.{DwUnit}
use Rattle.dwz_def_tops.specs.Spots.{EntryName}
use Rattle.dwz_def_images.specs.Homes.{Local}
use Rattle.dwz_def_images.specs.Units.{common_units, partial_units}
use Rattle.dwz_layout_order.specs.declared.orders.Settled.{Settled}
use Rattle.dwz_layout_order.specs.Ordered.{PartsPut}
use Rattle.dwz_layout.specs.declared.known.EntryTable.{EntryTable}
use Rattle.dwz_layout.specs.declared.order.UnitItems.{UnitItems}
use Rattle.dwz_law_layout.specs.Fitted.{KnowUnits}
use Rattle.dwz_law_layout.specs.Knows.{NewNumbers}
use Rattle.dwz_law_layout.specs.Beside.{Alone, Beside}
use Rattle.dwz_law_layout.specs.Facts.{AreFacts, RunFacts, docs, move, units_written, written}
use Rattle.dwz_law_layout.specs.Listed.{AreListed, TextsAt}
use Rattle.dwz_law_layout.specs.Named.{keys}
use Rattle.dwz_law_layout.specs.Settled.{IsSettled}
use Rattle.dwz_law_layout.specs.Unfitted.{KnowCommon, KnowTexts, common_keyed_forms, file_keyed_forms}

-- the partial units of a file
abbrev pub parts_after : {beside : Beside} → RunFacts beside → ℕ → List (DwUnit EntryName)
parts_after f n = partial_units (move f) (Local n) 0 (move f).parts

-- In a file that is written, where its partial units have the numbers from that one on among all units that are written, and texts stand
-- where the definitions say: what is written of these units is known, and shows them.
abbrev pub PartsKnownLaw : Type 0
PartsKnownLaw =
    (beside : Beside) (f : RunFacts beside) (t : TextsAt) (k : EntryTable) (s : Settled) → AreFacts f → AreListed f t k → IsSettled f s
    → (n : ℕ) → slice_index_or (written f) n false ≡ true
    → (numbers : NewNumbers) (here : ℕ) (order : List UnitItems) → PartsPut s n 0 s.plan.now.partials order
    → ((j : ℕ) (u : DwUnit EntryName) → slice_get (parts_after f n) j ≡ Some u → slice_get (units_written f) (here + j) ≡ Some u)
    → KnowTexts f k numbers n order (parts_after f n)
    → KnowUnits (keys f) k (file_keyed_forms f n) numbers here order (parts_after f n)

-- So it is of the partial units of a common file that is made (DWARF 5, 7.3.6), which are the first of all that are written; its number
-- is that of the files.
abbrev pub CommonKnownLaw : Type 0
CommonKnownLaw =
    (f : RunFacts Alone) (t : TextsAt) (k : EntryTable) (s : Settled) → AreFacts f → AreListed f t k → IsSettled f s
    → (order : List UnitItems) → PartsPut s (length (docs f)) 0 s.plan.now.partials order → KnowCommon f k order (common_units (move f))
    → KnowUnits (keys f) k (common_keyed_forms f) None 0 order (common_units (move f))

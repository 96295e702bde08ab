-- What is written of the old units of a file shows the units that are kept of them.
use Rattle.std.specs.Prelude.{◌≡◌, ℕ, ◌+◌, true, false, List, Some, slice_get, slice_index_or}
use Rattle.dwz_def_reading.specs.Documents.{DwUnit}
use Rattle.dwz_def_tops.specs.Spots.{EntryName}
use Rattle.dwz_def_images.specs.Units.{kept_units}
use Rattle.dwz_unit.specs.Rows.{units_of as raw_units}
use Rattle.dwz_graph.specs.declared.file.File.{File}
use Rattle.dwz_graph.specs.Index.{Index}
use Rattle.dwz_graph.specs.EntryCounts.{starts_from}
use Rattle.dwz_layout_order.specs.Kept.{AreKept, imports_at}
use Rattle.dwz_layout_order.specs.declared.orders.Settled.{Settled}
use Rattle.dwz_layout_order.specs.Ordered.{from_index, next_index}
use Rattle.dwz_layout.specs.declared.known.EntryTable.{EntryTable}
use Rattle.dwz_layout.specs.declared.order.UnitItems.{UnitItems}
use Rattle.dwz_law_layout.specs.Fitted.{KnowUnits}
use Rattle.dwz_law_layout.specs.Knows.{NewNumbers}
use Rattle.dwz_law_layout.specs.Beside.{Beside}
use Rattle.dwz_law_layout.specs.Facts.{AreFacts, HasFile, RunFacts, move, units, units_written, written}
use Rattle.dwz_law_layout.specs.Listed.{AreListed, TextsAt}
use Rattle.dwz_law_layout.specs.Named.{keys}
use Rattle.dwz_law_layout.specs.Settled.{IsSettled}
use Rattle.dwz_law_layout.specs.Unfitted.{KnowTexts, file_keyed_forms}

-- these units have the numbers from that one on among all that are written
abbrev pub AreWrittenFrom : {beside : Beside} → RunFacts beside → (here : ℕ) → List (DwUnit EntryName) → Type 0
AreWrittenFrom f here us = (j : ℕ) (u : DwUnit EntryName) → slice_get us j ≡ Some u → slice_get (units_written f) (here + j) ≡ Some u

-- the old units of a file after
abbrev pub olds_after : {beside : Beside} → RunFacts beside → ℕ → List (DwUnit EntryName)
olds_after f n = kept_units (move f) (units f) n 0 (units f)

-- In a file that is written, what is written of its old units is what is known of those after, if their texts stand where the definitions
-- say.
abbrev pub KeptKnownLaw : Type 0
KeptKnownLaw =
    (beside : Beside) (f : RunFacts beside) (t : TextsAt) (k : EntryTable) (s : Settled) → AreFacts f → AreListed f t k → IsSettled f s
    → (n : ℕ) (bytes : List ℕ) (x : File) (index : Index) → HasFile f n bytes x index → slice_index_or (written f) n false ≡ true
    → (start : ℕ) → slice_get (starts_from 0 f.indexes) n ≡ Some start
    → (numbers : NewNumbers) (here : ℕ) (order : List UnitItems)
    → AreKept (raw_units x.units) s.marks (imports_at s.plan.now) (from_index n start index) (next_index index) (raw_units x.units) order
    → AreWrittenFrom f here (olds_after f n) → KnowTexts f k numbers n order (olds_after f n)
    → KnowUnits (keys f) k (file_keyed_forms f n) numbers here order (olds_after f n)

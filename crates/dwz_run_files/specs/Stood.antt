-- Where texts stand as they were read: before any are taken out of a file, and before the common file has any.
use Rattle.std.specs.Prelude.{◌≡◌, ℕ, false, List, [], ◌∷◌, None}
use Rattle.dwz_def_reading.specs.Documents.{DwUnit, Node}
use Rattle.dwz_def_reading.specs.Lists.{Each}
use Rattle.dwz_def_tops.specs.Spots.{EntryName}
use Rattle.dwz_def_images.specs.Units.{out_units}
use Rattle.dwz_unit.specs.Rows.{EntryRow}
use Rattle.dwz_graph.specs.declared.file.File.{File}
use Rattle.dwz_graph.specs.Index.{Index}
use Rattle.dwz_layout_order.specs.declared.orders.Settled.{Settled}
use Rattle.dwz_layout.specs.declared.known.EntryTable.{EntryTable}
use Rattle.dwz_layout.specs.declared.order.UnitItems.{UnitItems}
use Rattle.dwz_law_layout.specs.Knows.{IsRead, Writes}
use Rattle.dwz_encode_common.specs.SharedLaws.{is_common_entry}
use Rattle.dwz_law_layout.specs.Beside.{Beside}
use Rattle.dwz_law_layout.specs.Facts.{HasFile, RunFacts, file_read, files_written, move, units}
use Rattle.dwz_law_layout.specs.Listed.{TextsAt}
use Rattle.dwz_law_layout.specs.Unfitted.{KnowsTextsOf, file_unit_forms}
use Rattle.dwz_run_files.specs.Prepared.{ArePrepared}
use Rattle.dwz_encode_texts.specs.TextLaws.{StandAsRead, unshared}

-- the texts of each unit of a file stand where the definitions say of a file that shares none with the common file
abbrev pub KnowUnshared : {beside : Beside} → RunFacts beside → EntryTable → ℕ → List UnitItems → List (DwUnit EntryName) → Type 0
KnowUnshared f k n [] [] = Unit {0}
KnowUnshared f k n (o ∷ order) (u ∷ some) = KnowsTextsOf f k (unshared (file_unit_forms f n u)) None n o × KnowUnshared f k n order some
KnowUnshared f k n _ _ = ⊥

-- no entry of the file with that number that the unit writes is one of a common file that is made
abbrev pub WritesOwn : {beside : Beside} → RunFacts beside → EntryTable → ℕ → UnitItems → Type 0
WritesOwn f k n o =
    (bytes : List ℕ) (x : File) (index : Index) → HasFile f n bytes x index
    → (i : ℕ) (r : EntryRow) (d : Node ℕ) → IsRead (file_read f n bytes x) i r d → Writes k o (file_read f n bytes x) i
    → is_common_entry f k n i ≡ false

-- So are the texts of each of these files; and what it writes are entries of its own.
abbrev pub FilesUnshared : {beside : Beside} → RunFacts beside → EntryTable → List ℕ → List (List UnitItems) → Type 0
FilesUnshared f k [] [] = Unit {0}
FilesUnshared f k (n ∷ files) (order ∷ orders) =
    KnowUnshared f k n order (out_units (move f) (units f) n) × Each (WritesOwn f k n) order × FilesUnshared f k files orders
FilesUnshared f k _ _ = ⊥

-- Of files that are prepared, and whose texts stand as they were read, the texts of all that is written of files stand where the
-- definitions of forms say if none is shared, and none of it is an entry of the common file. The units of the common file come first.
abbrev pub StoodLaw : Type 0
StoodLaw =
    (beside : Beside) (f : RunFacts beside) (s : Settled) (t : TextsAt) (k : EntryTable) (orders : List (List UnitItems))
    → ArePrepared f s t k orders → StandAsRead f t → (common : List UnitItems) (others : List (List UnitItems)) → orders ≡ common ∷ others
    → FilesUnshared f k (files_written f) others

-- What is laid and written of the files of a run.
use Rattle.std.specs.Prelude.{◌≡◌, ℕ, ◌+◌, ◌<◌, Bool, true, false, List, [], ◌∷◌, length, map, None, Some, slice_index}
use Rattle.dwz_def_reading.specs.Pruning.{new_number}
use Rattle.dwz_def_reading.specs.Documents.{Node}
use Rattle.dwz_def_tops.specs.Lists.{Nth}
use Rattle.dwz_def_tops.specs.Spots.{EntryName, FileUnit, RootOf, UnitOf}
use Rattle.dwz_def_images.specs.Units.{changes, common_units, out_units}
use Rattle.dwz_def_encoding.specs.Placing.{FileOut}
use Rattle.dwz_def_encoding.specs.Writing.{written_header_size}
use Rattle.dwz_def_readback.specs.AllFiles.{AreRead}
use Rattle.dwz_def_encoding.specs.Writing.{Numbering}
use Rattle.dwz_def_readback.specs.Files.{CommonFile, Run, common_out_by, file_out_by, places_by, sources, uses_by}
use Rattle.dwz_def_readback.specs.Sound.{FewTexts}
use Rattle.dwz_unit.specs.Rows.{EntryRow}
use Rattle.dwz_graph.specs.declared.file.File.{File}
use Rattle.dwz_graph.specs.Files.{AreKept}
use Rattle.dwz_graph.specs.Index.{Index}
use Rattle.dwz_layout_order.specs.declared.orders.Settled.{Settled}
use Rattle.dwz_layout_order.specs.Ordered.{AreOrders, FilesPut}
use Rattle.dwz_layout.specs.declared.known.EntryTable.{EntryTable}
use Rattle.dwz_layout.specs.declared.order.UnitItems.{UnitItems}
use Rattle.dwz_layout.specs.Entries.{row}
use Rattle.dwz_layout.specs.Known.{number_of}
use Rattle.dwz_layout.specs.Laid.{made_of}
use Rattle.dwz_encode.specs.Laws.{FilesAre, IsOrderOf}
use Rattle.dwz_encode.specs.Shown.{IsWritten, ShowFiles}
use Rattle.dwz_law_layout.specs.Fitted.{KnowFiles, fitted_file}
use Rattle.dwz_law_layout.specs.Knows.{IsRead, NewNumbers}
use Rattle.dwz_law_layout.specs.Beside.{Alone, Beside}
use Rattle.dwz_law_layout.specs.Facts.{AreFacts, HasFile, RunFacts, common, docs, file_read, files_written, move, run, units}
use Rattle.dwz_law_layout.specs.Listed.{AreListed, TextsAt}
use Rattle.dwz_law_layout.specs.Named.{keys}
use Rattle.dwz_law_layout.specs.NamedLaws.{IsItself, entry_name}
use Rattle.dwz_law_layout.specs.Settled.{IsSettled}
use Rattle.dwz_law_layout.specs.Whole.{FewBy}
use Rattle.dwz_law_layout.specs.Unfitted.{KnowCommon, KnowTexts, before_files, before_forms}

-- in a file that is prunable each use of a text has its new number
abbrev pub numbers_if : Bool → CommonFile → Run → ℕ → NewNumbers
numbers_if true k r n = Some (new_number (sources r n).strs (uses_by k r n))
numbers_if false k r n = None

abbrev pub run_numbers : {beside : Beside} → RunFacts beside → ℕ → NewNumbers
run_numbers f n = numbers_if (f.input.prunes n) (common f) (run f) n

-- the files that are written, as they are written, and the common file before them
abbrev pub files_out : {beside : Beside} → RunFacts beside → List (FileOut EntryName)
files_out f = map (file_out_by (common f) (run f)) (files_written f)

abbrev pub written_out : {beside : Beside} → RunFacts beside → List (FileOut EntryName)
written_out f = common_out_by (common f) (run f) ∷ files_out f

-- texts of the common file aren't too long
abbrev pub AreFew : {beside : Beside} → RunFacts beside → Type 0
AreFew f = FewBy (common f) (run f)

-- with the forms of their values and these numbers the files are those of the run
abbrev pub FilesFittedLaw : Type 0
FilesFittedLaw = (beside : Beside) (f : RunFacts beside) → map fitted_file (before_files f (run_numbers f)) ≡ files_out f

-- and so with the common file before them
abbrev pub RunFittedLaw : Type 0
RunFittedLaw = (f : RunFacts Alone) → map fitted_file (before_forms f (run_numbers f)) ≡ written_out f

-- and what shows them before is shown by the order of the run
abbrev pub FilesShownLaw : Type 0
FilesShownLaw =
    (beside : Beside) (f : RunFacts beside) (k : EntryTable) (here : ℕ) (orders : List (List UnitItems))
    → KnowFiles (keys f) k here orders (before_files f (run_numbers f)) → ShowFiles (keys f) k here orders (files_out f)

abbrev pub RunShownLaw : Type 0
RunShownLaw =
    (f : RunFacts Alone) (k : EntryTable) (orders : List (List UnitItems))
    → KnowFiles (keys f) k 0 orders (before_forms f (run_numbers f)) → ShowFiles (keys f) k 0 orders (written_out f)

-- ---- what is known of all files

-- where the texts of each of these files stand
abbrev pub FilesTexts : {beside : Beside} → RunFacts beside → EntryTable → (ℕ → NewNumbers) → List ℕ → List (List UnitItems) → Type 0
FilesTexts f k numbers [] [] = Unit {0}
FilesTexts f k numbers (n ∷ files) (order ∷ orders) =
    KnowTexts f k (numbers n) n order (out_units (move f) (units f) n) × FilesTexts f k numbers files orders
FilesTexts f k numbers _ _ = ⊥

-- so of all that are written, and those of the common file, which is the first
abbrev pub TextsKnown : {beside : Beside} → RunFacts beside → EntryTable → (ℕ → NewNumbers) → List (List UnitItems) → Type 0
TextsKnown f k numbers [] = ⊥
TextsKnown f k numbers (common ∷ orders) = KnowCommon f k common (common_units (move f)) × FilesTexts f k numbers (files_written f) orders

-- Where what is settled is written in order, and texts stand where the definitions say, all that is written of the files is known.
abbrev pub FilesKnownLaw : Type 0
FilesKnownLaw =
    (beside : Beside) (f : RunFacts beside) (t : TextsAt) (k : EntryTable) (s : Settled) → AreFacts f → AreListed f t k → IsSettled f s
    → (files : List File) → AreKept f.contents files → (orders : List (List UnitItems)) → FilesPut s 0 0 files f.indexes orders
    → (numbers : ℕ → NewNumbers) → FilesTexts f k numbers (files_written f) orders
    → KnowFiles (keys f) k (length (common_units (move f))) orders (before_files f numbers)

-- so it is with a common file that is made before them
abbrev pub RunKnownLaw : Type 0
RunKnownLaw =
    (f : RunFacts Alone) (t : TextsAt) (k : EntryTable) (s : Settled) → AreFacts f → AreListed f t k → IsSettled f s
    → (orders : List (List UnitItems)) → AreOrders f.contents f.indexes s orders
    → (numbers : ℕ → NewNumbers) → TextsKnown f k numbers orders → KnowFiles (keys f) k 0 orders (before_forms f numbers)

-- ---- orders of them

-- An order that shows the files that are written, with what is in the numbered lists, is an order of these files, where they read and the
-- texts of the common file aren't too long.
abbrev pub RunOrderLaw : Type 0
RunOrderLaw =
    (f : RunFacts Alone) (t : TextsAt) (k : EntryTable) (orders : List (List UnitItems)) → AreFacts f → AreListed f t k
    → AreRead f.input (docs f) → AreFew f → ShowFiles (keys f) k 0 orders (written_out f) → IsOrderOf (keys f) k orders (written_out f)

-- they aren't where nothing is in it
abbrev pub RunFewLaw : Type 0
RunFewLaw = (beside : Beside) (f : RunFacts beside) → common_units (move f) ≡ [] → FewTexts (run f)

-- then nothing is written of it, and nothing of its texts has to be known
abbrev pub NoneKnownLaw : Type 0
NoneKnownLaw =
    (beside : Beside) (f : RunFacts beside) (t : TextsAt) (k : EntryTable) (s : Settled) → AreFacts f → AreListed f t k → IsSettled f s
    → common_units (move f) ≡ []
    → (common : List UnitItems) (others : List (List UnitItems)) → AreOrders f.contents f.indexes s (common ∷ others)
    → KnowCommon f k common (common_units (move f))

-- So what is settled of a run is written in such an order, if texts stand where the definitions say.
abbrev pub SettledOrderLaw : Type 0
SettledOrderLaw =
    (f : RunFacts Alone) (t : TextsAt) (k : EntryTable) (s : Settled) → AreFacts f → AreListed f t k → IsSettled f s → AreFew f
    → AreRead f.input (docs f) → (orders : List (List UnitItems)) → AreOrders f.contents f.indexes s orders
    → TextsKnown f k (run_numbers f) orders → IsOrderOf (keys f) k orders (written_out f)

-- ---- what is laid

-- where names stand
abbrev pub places_of : {beside : Beside} → RunFacts beside → Numbering EntryName
places_of f = places_by (common f) (run f)

-- where an order shows them, what is laid of each file and written by it are its sections in the run
abbrev pub RunLaidLaw : Type 0
RunLaidLaw =
    (f : RunFacts Alone) (k : EntryTable) (orders : List (List UnitItems)) → AreFacts f → IsOrderOf (keys f) k orders (written_out f)
    → let all = made_of k orders in FilesAre (places_of f) k all.places all.roots 0 orders all.files (written_out f)

-- and each entry that is written has the place of its name
abbrev pub RunPlacesLaw : Type 0
RunPlacesLaw =
    (f : RunFacts Alone) (k : EntryTable) (orders : List (List UnitItems)) → AreFacts f → IsOrderOf (keys f) k orders (written_out f)
    → (i : ℕ) → i < length k.owners.items → IsWritten k i orders
    → slice_index (made_of k orders).places i ≡ (places_of f).place ((keys f).row i)

-- so an entry that stands for itself in a file that is written
abbrev pub RunSelfLaw : Type 0
RunSelfLaw =
    (f : RunFacts Alone) (t : TextsAt) (k : EntryTable) (orders : List (List UnitItems)) → AreFacts f → AreListed f t k
    → IsOrderOf (keys f) k orders (written_out f)
    → (n : ℕ) (bytes : List ℕ) (x : File) (index : Index) → HasFile f n bytes x index → changes (move f) (units f) n ≡ true
    → (i : ℕ) (r : EntryRow) (d : Node ℕ) → IsRead (file_read f n bytes x) i r d → IsItself f (entry_name f n d)
    → slice_index (made_of k orders).places (number_of k (row n i)) ≡ (places_of f).place (entry_name f n d)

-- and a unit that was read begins so many bytes before its root as its header has (DWARF 5, 7.5.1)
abbrev pub RunRootsLaw : Type 0
RunRootsLaw =
    (f : RunFacts Alone) → AreFacts f → (i : ℕ) (u : FileUnit EntryName) → Nth 0 (units f) i u
    → (places_of f).place (RootOf i) ≡ (places_of f).place (UnitOf i) + written_header_size u.unit.kind

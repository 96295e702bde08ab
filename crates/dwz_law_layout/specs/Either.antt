-- What is laid and written of files, whatever stands beside them: a common file that is made with them, or a finished one.
use Rattle.std.specs.Prelude.{◌≡◌, ℕ, ◌+◌, true, List, [], ◌∷◌, length, map, Some, slice_get, slice_index}
use Rattle.dwz_def_reading.specs.Documents.{Node}
use Rattle.dwz_def_reading.specs.Units.{RawUnit}
use Rattle.dwz_def_tops.specs.Lists.{Nth}
use Rattle.dwz_def_tops.specs.Spots.{EntryName, FileUnit, RootOf, UnitOf}
use Rattle.dwz_def_images.specs.Units.{changes}
use Rattle.dwz_def_encoding.specs.Placing.{FileOut}
use Rattle.dwz_def_encoding.specs.Writing.{written_header_size}
use Rattle.dwz_def_readback.specs.AllFiles.{AreRead}
use Rattle.dwz_def_readback.specs.Files.{Made, Run, common_out_by}
use Rattle.dwz_unit.specs.Rows.{EntryRow, rows_of}
use Rattle.dwz_graph.specs.declared.file.File.{File}
use Rattle.dwz_graph.specs.Files.{AreKept}
use Rattle.dwz_graph.specs.Index.{Index}
use Rattle.dwz_layout_order.specs.declared.orders.Settled.{Settled}
use Rattle.dwz_layout_order.specs.Ordered.{FilesPut}
use Rattle.dwz_graph.specs.AllNames.{all_names}
use Rattle.dwz_layout_numbers.specs.Owners.{StandsIn}
use Rattle.dwz_layout.specs.declared.known.EntryTable.{EntryTable}
use Rattle.dwz_layout.specs.declared.order.UnitItems.{UnitItems}
use Rattle.dwz_layout.specs.Entries.{row}
use Rattle.dwz_layout.specs.Known.{number_of}
use Rattle.dwz_layout.specs.Laid.{AllMade, Standing as LaidBefore, made_of, over_of}
use Rattle.dwz_encode.specs.Laws.{FilesAre, IsOrderOf, IsOrderOver}
use Rattle.dwz_encode.specs.Shown.{ShowFiles}
use Rattle.dwz_law_layout.specs.Beside.{Alone, Beside, Over, Standing}
use Rattle.dwz_law_layout.specs.Facts.{AreFacts, HasFile, RunFacts, docs, every, file_read, files_written, move, run, units, units_written}
use Rattle.dwz_law_layout.specs.Knows.{IsRead}
use Rattle.dwz_law_layout.specs.Laid.{AreFew, FilesTexts, files_out, places_of, run_numbers, written_out}
use Rattle.dwz_law_layout.specs.Listed.{AreListed, TextsAt}
use Rattle.dwz_law_layout.specs.Named.{keys}
use Rattle.dwz_law_layout.specs.NamedLaws.{IsItself, entry_name}
use Rattle.dwz_law_layout.specs.Settled.{IsSettled}
use Rattle.dwz_law_layout.specs.OverLaws.{AreOver}

-- where entries stand that were read, and the roots of units
abbrev pub view_of : List RawUnit → LaidBefore
view_of raw = record { places = map (λ r. r.entry.at) (rows_of raw); roots = map (λ u. u.root.at) raw }

-- all that is laid: the common file first, or behind the finished one
abbrev pub laid_by : Beside → EntryTable → List (List UnitItems) → AllMade
laid_by Alone k orders = made_of k orders
laid_by (Over s) k orders = over_of k (view_of s.file.raw) orders

-- the units of a finished common file have the first numbers among all
abbrev pub first_unit_by : Beside → ℕ
first_unit_by Alone = 0
first_unit_by (Over s) = length s.file.raw

-- The files that are written have their orders behind a first one: that of the common file, which is empty where nothing is written of it.
abbrev pub first_put : Beside → Run → FileOut EntryName
first_put Alone r = common_out_by Made r
first_put (Over s) r = record { number = r.common; units = [] }

abbrev pub put_by : {beside : Beside} → RunFacts beside → List (FileOut EntryName)
put_by {beside} f = first_put beside (run f) ∷ files_out f

-- orders show them so, and what references name is written, or stands already
abbrev pub IsOrderBy : (beside : Beside) → RunFacts beside → EntryTable → List (List UnitItems) → Type 0
IsOrderBy Alone f k orders = IsOrderOf (keys f) k orders (written_out f)
IsOrderBy (Over s) f k orders = IsOrderOver (keys f) (places_of f) k (view_of s.file.raw) orders (put_by f)

-- files over a finished common file are over that one
abbrev pub AreBeside : (beside : Beside) → RunFacts beside → Type 0
AreBeside Alone f = Unit {0}
AreBeside (Over s) f = AreOver s f

-- ---- laws

-- there is an order for each
abbrev pub ManyLaw : Type 0
ManyLaw =
    (beside : Beside) (f : RunFacts beside) (k : EntryTable) (orders : List (List UnitItems)) → IsOrderBy beside f k orders
    → length orders ≡ length (put_by f)

-- what is laid of each file and written by it are its sections
abbrev pub LaidLaw : Type 0
LaidLaw =
    (beside : Beside) (f : RunFacts beside) (k : EntryTable) (orders : List (List UnitItems)) → AreFacts f → IsOrderBy beside f k orders
    → let all = laid_by beside k orders in
    FilesAre (places_of f) k all.places all.roots (first_unit_by beside) orders all.files (put_by f)

-- each entry whose name stands in a unit that is written, or in the finished common file, has the place of its name
abbrev pub PlacedLaw : Type 0
PlacedLaw =
    (beside : Beside) (f : RunFacts beside) (t : TextsAt) (k : EntryTable) (orders : List (List UnitItems)) → AreFacts f → AreBeside beside f
    → AreListed f t k → IsOrderBy beside f k orders → (i : ℕ) (name : EntryName) → slice_get (all_names (every f)) i ≡ Some name
    → (owner : ℕ) → StandsIn (units_written f) name owner → slice_index (laid_by beside k orders).places i ≡ (places_of f).place name

-- so one that stands for itself in a file that is written
abbrev pub SelfLaw : Type 0
SelfLaw =
    (beside : Beside) (f : RunFacts beside) (t : TextsAt) (k : EntryTable) (orders : List (List UnitItems)) → AreFacts f → AreBeside beside f
    → AreListed f t k → IsOrderBy beside f k orders
    → (n : ℕ) (bytes : List ℕ) (x : File) (index : Index) → HasFile f n bytes x index → changes (move f) (units f) n ≡ true
    → (i : ℕ) (r : EntryRow) (d : Node ℕ) → IsRead (file_read f n bytes x) i r d → IsItself f (entry_name f n d)
    → slice_index (laid_by beside k orders).places (number_of k (row n i)) ≡ (places_of f).place (entry_name f n d)

-- and a unit that was read begins so many bytes before its root as its header has (DWARF 5, 7.5.1)
abbrev pub RootsLaw : Type 0
RootsLaw =
    (beside : Beside) (f : RunFacts beside) → AreFacts f → AreBeside beside f → (i : ℕ) (u : FileUnit EntryName) → Nth 0 (units f) i u
    → (places_of f).place (RootOf i) ≡ (places_of f).place (UnitOf i) + written_header_size u.unit.kind

-- ---- orders

-- An order that shows the files, with what is in the numbered lists, is such an order, where they read and the texts of the common file
-- aren't too long.
abbrev pub OrderLaw : Type 0
OrderLaw =
    (beside : Beside) (f : RunFacts beside) (t : TextsAt) (k : EntryTable) (orders : List (List UnitItems)) → AreFacts f → AreBeside beside f
    → AreListed f t k → AreRead f.input (docs f) → AreFew f → ShowFiles (keys f) k (first_unit_by beside) orders (put_by f)
    → IsOrderBy beside f k orders

-- over a finished common file what is settled is written in such an order, behind an empty one, if texts stand where the definitions say
abbrev pub SettledOverLaw : Type 0
SettledOverLaw =
    (s : Standing) (f : RunFacts (Over s)) (t : TextsAt) (k : EntryTable) (settled : Settled) → AreFacts f → AreOver s f → AreListed f t k
    → IsSettled f settled → AreFew f → AreRead f.input (docs f) → (files : List File) → AreKept f.contents files
    → (others : List (List UnitItems)) → FilesPut settled 0 0 files f.indexes others
    → FilesTexts f k (run_numbers f) (files_written f) others → IsOrderBy (Over s) f k ([] ∷ others)

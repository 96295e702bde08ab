-- What is written of a file are entries of its own: of its partial units, and of its old ones.
use Rattle.std.proofs.Common.{◌≡◌, ℕ, ◌<◌, true, false, List, [], ◌∷◌, length, Some, slice_get, refl, sym, subst}
use Rattle.dwz_def_reading.proofs.ListFacts.{same_got}
use Rattle.dwz_def_reading.specs.Documents.{Node}
use Rattle.dwz_def_reading.specs.Lists.{Each}
use Rattle.dwz_def_tops.proofs.Members.{each_append}
use Rattle.dwz_def_images.specs.Units.{changes}
use Rattle.dwz_graph.specs.declared.file.File.{File}
use Rattle.dwz_graph.specs.Index.{Index}
use Rattle.dwz_unit.specs.Rows.{EntryRow, units_of as raw_units}
use Rattle.dwz_graph.specs.EntryCounts.{starts_from}
use Rattle.dwz_layout_order.specs.declared.orders.Settled.{Settled}
use Rattle.dwz_layout_order.specs.Ordered.{FilePut, from_index, next_index}
use Rattle.dwz_layout.specs.declared.known.EntryTable.{EntryTable}
use Rattle.dwz_layout.specs.declared.order.UnitItems.{UnitItems}
use Rattle.dwz_law_layout.specs.Knows.{IsRead, Writes}
use Rattle.dwz_encode_common.specs.Placed.{in_common_file}
use Rattle.dwz_law_layout.specs.Beside.{Alone, Beside, Over, Standing}
use Rattle.dwz_law_layout.specs.Facts.{AreFacts, HasFile, RunFacts, docs, file_read, move, units}
use Rattle.dwz_law_layout.specs.Listed.{AreListed, TextsAt}
use Rattle.dwz_law_layout.specs.Settled.{IsSettled}
use Rattle.dwz_law_layout.proofs.FileKept.{are_shown, stand_for}
use Rattle.dwz_run_files.specs.Stood.{WritesOwn}
use Rattle.dwz_run_files.proofs.OldOwn.{olds_own}
use Rattle.dwz_run_files.proofs.PartOwn.{parts_own}

-- no entry of the file that the unit writes is one of the common file
abbrev ReadOwn : RunFacts Alone → EntryTable → ℕ → List ℕ → File → UnitItems → Type 0
ReadOwn f k n bytes x u =
    (i : ℕ) (r : EntryRow) (d : Node ℕ) → IsRead (file_read f n bytes x) i r d → Writes k u (file_read f n bytes x) i
    → in_common_file k n i ≡ false

-- what holds of each, whatever the file is read as
abbrev OfFile : RunFacts Alone → ℕ → (List ℕ → File → Index → Type 0) → Type 0
OfFile f n P = (bytes : List ℕ) (x : File) (index : Index) → HasFile f n bytes x index → P bytes x index

each_all : (f : RunFacts Alone) (n : ℕ) (P : List ℕ → File → Index → UnitItems → Type 0) (order : List UnitItems)
    → OfFile f n (λ bytes x index. Each (P bytes x index) order) → Each (λ u. OfFile f n (λ bytes x index. P bytes x index u)) order
each_all f n P [] all = tt
each_all f n P (u ∷ order) all =
    (λ bytes x index h. (all bytes x index h).0, each_all f n P order (λ bytes x index h. (all bytes x index h).1))

module _ (f : RunFacts Alone) (t : TextsAt) (k : EntryTable) (facts : AreFacts f) (listed : AreListed f t k) (s : Settled) (settled : IsSettled f s)
    (n : ℕ) (x : File) (index : Index) (x_is : slice_get f.files n ≡ Some x) (index_is : slice_get f.indexes n ≡ Some index)
    (low : n < length (docs f)) (changed : changes (move f) (units f) n ≡ true)
    (start : ℕ) (at : slice_get (starts_from 0 f.indexes) n ≡ Some start) where
  abbrev Put : File → Index → List UnitItems → Type 0
  Put y other order = FilePut s (raw_units y.units) (from_index n start other) (next_index other) order

  of_read : (order : List UnitItems) → Put x index order → OfFile f n (λ bytes y other. Each (ReadOwn f k n bytes y) order)
  of_read order put bytes y other h =
      let same_x : x ≡ y = same_got f.files n x y x_is h.file in
      let same_index : index ≡ other = same_got f.indexes n index other index_is h.index_is in
      let mine : Put y other order = subst (λ (z : Index). Put y z order) same_index (subst (λ (z : File). Put z index order) same_x put) in
      subst (Each (ReadOwn f k n bytes y)) (sym mine.order_is)
      (each_append (ReadOwn f k n bytes y) mine.parts mine.olds
      (parts_own f t k facts listed n bytes y other h changed s settled low mine.parts mine.parts_put)
      (olds_own f t k facts listed n bytes y other h changed mine.olds
      (stand_for f facts n bytes y other h t k s listed settled start mine.olds mine.olds_kept)
      (are_shown f facts n bytes y other h t k s listed settled start mine.olds mine.olds_kept at)))

  pub made_own : (order : List UnitItems) → FilePut s (raw_units x.units) (from_index n start index) (next_index index) order
      → Each (WritesOwn f k n) order
  made_own order put = each_all f n (λ bytes y other u. ReadOwn f k n bytes y u) order (of_read order put)

-- over a common file that stands none of its entries is written
none_own : (c : Standing) (f : RunFacts (Over c)) (k : EntryTable) (n : ℕ) (order : List UnitItems) → Each (WritesOwn f k n) order
none_own c f k n [] = tt
none_own c f k n (o ∷ order) = (λ bytes x index h i r d read writes. refl, none_own c f k n order)

pub file_own : (beside : Beside) (f : RunFacts beside) (t : TextsAt) (k : EntryTable) → AreFacts f → AreListed f t k → (s : Settled) → IsSettled f s
    → (n : ℕ) (x : File) (index : Index) → slice_get f.files n ≡ Some x → slice_get f.indexes n ≡ Some index → n < length (docs f)
    → changes (move f) (units f) n ≡ true → (start : ℕ) → slice_get (starts_from 0 f.indexes) n ≡ Some start → (order : List UnitItems)
    → FilePut s (raw_units x.units) (from_index n start index) (next_index index) order → Each (WritesOwn f k n) order
file_own Alone f t k facts listed s settled n x index x_is index_is low changed start at order put =
    made_own f t k facts listed s settled n x index x_is index_is low changed start at order put
file_own (Over c) f t k facts listed s settled n x index x_is index_is low changed start at order put = none_own c f k n order

-- A file that is written is laid at its rank, and what is laid of it are its sections in the run.
use Rattle.std.proofs.Common.{◌≡◌, ℕ, zero, suc, ◌+◌, ◌<◌, List, [], ◌∷◌, length, take, Some, slice_get, refl, sym, ap, subst, ◌∙◌}
use Rattle.std.proofs.Common.{arith}
use Rattle.std.proofs.lemmas.List.{length-map}
use Rattle.dwz_def_reading.proofs.ListFacts.{got_below, got_map, same_got}
use Rattle.dwz_def_tops.specs.Spots.{EntryName}
use Rattle.dwz_def_encoding.specs.Placing.{FileOut}
use Rattle.dwz_def_encoding.specs.Writing.{Numbering}
use Rattle.dwz_def_readback.specs.Files.{file_out_by}
use Rattle.dwz_graph.specs.declared.file.File.{File}
use Rattle.dwz_graph.specs.Files.{HasRead}
use Rattle.dwz_graph.specs.Index.{Index}
use Rattle.dwz_layout.specs.declared.known.EntryTable.{EntryTable}
use Rattle.dwz_layout.specs.declared.order.UnitItems.{UnitItems}
use Rattle.dwz_layout.specs.Laid.{AllMade, FileMade, file_view}
use Rattle.dwz_encode.specs.Laws.{FileIs, FilesAre}
use Rattle.dwz_encode.specs.Shown.{unit_count}
use Rattle.dwz_law_layout.specs.Beside.{Beside}
use Rattle.dwz_law_layout.specs.Facts.{AreFacts, RunFacts, common, files_written, run}
use Rattle.dwz_law_layout.specs.Trees.{IsReadFile}
use Rattle.dwz_law_layout.proofs.PartHomes.{file_read_there}
use Rattle.dwz_law_layout.specs.Laid.{places_of}
use Rattle.dwz_law_layout.specs.Either.{first_unit_by, laid_by, put_by}
use Rattle.dwz_law_layout.proofs.Either.{laid_of, many_by}
use Rattle.dwz_layout_input.proofs.RowSteps.{starts_many}
use Rattle.dwz_run_files.specs.declared.prepared.PreparedFiles.{PreparedFiles}
use Rattle.dwz_run_files.proofs.RanksRead.{first_counted, firsts_many}
use Rattle.dwz_run_files.specs.declared.moved.FileAfter.{FileAfter}
use Rattle.dwz_run_files.specs.declared.work.LaidRun.{LaidRun}
use Rattle.dwz_run_files.specs.Works.{HasRank, IsMoved, IsWork}

-- ---- what is laid, file by file

are_long : (n : Numbering EntryName) (k : EntryTable) (at roots : List ℕ) (first : ℕ) (orders : List (List UnitItems)) (made : List FileMade)
    (files : List (FileOut EntryName)) → FilesAre n k at roots first orders made files → length made ≡ length orders
are_long n k at roots first [] [] [] are = refl
are_long n k at roots first [] [] (x ∷ files) are = absurd are
are_long n k at roots first [] (m ∷ made) files are = absurd are
are_long n k at roots first (order ∷ orders) [] files are = absurd are
are_long n k at roots first (order ∷ orders) (m ∷ made) [] are = absurd are
are_long n k at roots first (order ∷ orders) (m ∷ made) (x ∷ files) are =
    ap suc (are_long n k at roots (first + length order) orders made files are.1)

pub file_here : (n : Numbering EntryName) (k : EntryTable) (at roots : List ℕ) (first : ℕ) (orders : List (List UnitItems)) (made : List FileMade)
    (files : List (FileOut EntryName)) → FilesAre n k at roots first orders made files
    → (i : ℕ) (order : List UnitItems) (m : FileMade) (x : FileOut EntryName)
    → slice_get orders i ≡ Some order → slice_get made i ≡ Some m → slice_get files i ≡ Some x
    → FileIs n k at roots (first + unit_count (take i orders)) order m x
unfolding unit_count
file_here n k at roots first [] [] [] are i order m x p q r = absurd cc
file_here n k at roots first [] [] (y ∷ files) are i order m x p q r = absurd are
file_here n k at roots first [] (l ∷ made) files are i order m x p q r = absurd are
file_here n k at roots first (o ∷ orders) [] files are i order m x p q r = absurd are
file_here n k at roots first (o ∷ orders) (l ∷ made) [] are i order m x p q r = absurd are
file_here n k at roots first (o ∷ orders) (l ∷ made) (y ∷ files) are zero order m x p q r =
    let order_same : o ≡ order = cc in
    let made_same : l ≡ m = cc in
    let file_same : y ≡ x = cc in
    let first_same : first ≡ first + 0 = omega arith in
    subst (λ (w : ℕ). FileIs n k at roots w order m x) first_same
    (subst (λ (w : List UnitItems). FileIs n k at roots first w m x) order_same
    (subst (λ (w : FileMade). FileIs n k at roots first o w x) made_same (subst (λ
    (w : FileOut EntryName). FileIs n k at roots first o l w) file_same are.0)))
file_here n k at roots first (o ∷ orders) (l ∷ made) (y ∷ files) are (suc i) order m x p q r =
    let more = file_here n k at roots (first + length o) orders made files are.1 i order m x p q r in
    let same : (first + length o) + unit_count (take i orders) ≡ first + (length o + unit_count (take i orders)) = omega arith in
    subst (λ (w : ℕ). FileIs n k at roots w order m x) same more

-- ---- all files

module _ {beside : Beside} (f : RunFacts beside) (w : LaidRun) (is : IsWork f w) where
  abbrev pub prepared : PreparedFiles
  prepared = w.prepared.now

  abbrev pub orders_in : List (List UnitItems)
  orders_in = w.prepared.now.ordered.orders.items

  abbrev pub all : AllMade
  all = laid_by beside w.prepared.now.known w.prepared.now.ordered.orders.items

  pub facts : AreFacts f
  facts = is.works.ready.can.facts

  pub many : length orders_in ≡ length (put_by f)
  many = many_by _ f prepared.known orders_in is.works.ready.can.order

  pub laid : FilesAre (places_of f) prepared.known all.places all.roots (first_unit_by beside) orders_in all.files (put_by f)
  laid = laid_of _ f prepared.known orders_in facts is.works.ready.can.order

  pub layout_many : length w.layout.now.files ≡ length orders_in
  layout_many =
      ap (λ (a : AllMade). length a.files) is.layout_is
      ∙ are_long (places_of f) prepared.known all.places all.roots (first_unit_by beside) orders_in all.files (put_by f) laid

-- ---- the file at hand

module _ {beside : Beside} (f : RunFacts beside) (w : LaidRun) (is : IsWork f w) (n rank : ℕ) (has : HasRank f n rank) where
  abbrev p : PreparedFiles
  p = w.prepared.now

  abbrev orders : List (List UnitItems)
  orders = p.ordered.orders.items

  pub read : IsReadFile f n
  read = file_read_there f (facts f w is) n has.0

  pub in_files : n < length p.files.now
  in_files = got_below p.files.now n read.x (ap (λ (xs : List File). slice_get xs n) (sym is.works.files_are) ∙ read.has.file)

  pub in_indexes : n < length p.run.indexes.now
  in_indexes = got_below p.run.indexes.now n read.index (ap (λ (xs : List Index). slice_get xs n) (sym is.works.indexes_are)
      ∙ read.has.index_is)

  pub in_starts : n < length w.starts.now
  in_starts =
      let long = starts_many 0 f.indexes in
      let starts = ap (λ (xs : List ℕ). length xs) is.starts_are in
      let below = got_below f.indexes n read.index read.has.index_is in omega (arith, long, starts, below)

  pub in_orders : suc rank < length orders
  in_orders =
      let below = got_below (files_written f) rank n has.1 in
      let long = length-map (files_written f) (file_out_by (common f) (run f)) in
      let all_many = many f w is in omega (arith, below, long, all_many)

  pub in_firsts : suc rank < length p.ordered.firsts.items
  in_firsts =
      let long = firsts_many (first_unit_by beside) orders in
      let firsts = ap (λ (xs : List ℕ). length xs) is.works.ready.firsts in omega (arith, long, firsts, in_orders)

  pub in_layout : suc rank < length w.layout.now.files
  in_layout = (let long = layout_many f w is in omega (arith, long, in_orders))

-- what was found of it by these numbers is the file of which something moves
module _ {beside : Beside} (f : RunFacts beside) (w : LaidRun) (is : IsWork f w) (rank place : ℕ) (m : FileAfter) (has : HasRank f m.number rank)
    (behind : place ≡ suc rank) where
  abbrev n : ℕ
  n = m.number

  abbrev k : EntryTable
  k = w.prepared.now.known

  abbrev files_in : List (List UnitItems)
  files_in = w.prepared.now.ordered.orders.items

  abbrev Here : AllMade → ℕ → Type 0
  Here a first = FileIs (places_of f) k a.places a.roots first m.units.now (file_view m.laid.now) (file_out_by (common f) (run f) n)

  pub is_moved : slice_get w.prepared.now.files.now n ≡ Some m.file.now → slice_get w.prepared.now.run.indexes.now n ≡ Some m.index.now
      → slice_get w.starts.now n ≡ Some m.start → slice_get w.prepared.now.ordered.firsts.items place ≡ Some m.first
      → slice_get files_in place ≡ Some m.units.now → slice_get w.layout.now.files place ≡ Some (file_view m.laid.now) → IsMoved f w m
  is_moved file index start first_at units_at laid_there =
      let first = ap (slice_get w.prepared.now.ordered.firsts.items) (sym behind) ∙ first_at in
      let units : slice_get files_in (suc rank) ≡ Some m.units.now = ap (slice_get files_in) (sym behind) ∙ units_at in
      let laid_at : slice_get w.layout.now.files (suc rank) ≡ Some (file_view m.laid.now) = ap (slice_get w.layout.now.files) (sym behind)
      ∙ laid_there in
      let r = read f w is n rank has in
      let there : slice_get f.files n ≡ Some m.file.now = ap (λ (xs : List File). slice_get xs n) is.works.files_are ∙ file in
      let index_there : slice_get f.indexes n ≡ Some m.index.now = ap (λ (xs : List Index). slice_get xs n) is.works.indexes_are ∙ index in
      let x_same : r.x ≡ m.file.now = same_got f.files n r.x m.file.now r.has.file there in
      let a = laid_by beside k files_in in
      let made_there : slice_get a.files (suc rank) ≡ Some (file_view m.laid.now) =
      ap (λ (x : AllMade). slice_get x.files (suc rank)) (sym is.layout_is) ∙ laid_at in
      let out_there : slice_get (put_by f) (suc rank) ≡ Some (file_out_by (common f) (run f) n) =
      got_map (file_out_by (common f) (run f)) (files_written f) rank n has.1 in
      let here = file_here (places_of f) k a.places a.roots (first_unit_by beside) files_in a.files (put_by f) (laid f w is)
      (suc rank) m.units.now
      (file_view m.laid.now) (file_out_by (common f) (run f) n) units made_there out_there in
      let first_is : first_unit_by beside + unit_count (take (suc rank) files_in) ≡ m.first =
      sym (first_counted (first_unit_by beside) files_in (suc rank) m.first (ap (λ (xs : List ℕ). slice_get xs (suc rank)) (sym is.works.ready.firsts)
      ∙ first)) in
      let is_here : Here w.layout.now m.first = subst (λ (x : AllMade). Here x m.first) (sym is.layout_is) (subst (λ
      (i : ℕ). Here a i) first_is here) in
      record {
        works = is;
        moves = has.0;
        bytes = r.bytes;
        has = record {
          file = there;
          index_is = index_there;
          read = subst (λ (x : File). HasRead f.contents n r.bytes x) x_same r.has.read;
        };
        start_is = ap (λ (xs : List ℕ). slice_get xs n) (sym is.starts_are) ∙ start;
        info = is_here.info;
        abbrevs = is_here.abbrevs;
      }

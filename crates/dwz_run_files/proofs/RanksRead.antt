-- A file that is written has a rank, and the order of that rank is its: by the lists of ranks, of orders, and of first units.
use Rattle.std.proofs.Common.{◌≡◌, ℕ, zero, suc, ◌+◌, true, false, List, [], ◌∷◌, length, take, Option, Some, None, slice_get, refl, sym}
use Rattle.std.proofs.Common.{ap, ◌∙◌, arith}
use Rattle.std.proofs.lemmas.List.{length-map}
use Rattle.dwz_def_reading.proofs.ListFacts.{got_below, got_there}
use Rattle.dwz_def_images.specs.Units.{changes}
use Rattle.dwz_def_encoding.specs.Placing.{FileOut}
use Rattle.dwz_def_readback.specs.Files.{file_out_by}
use Rattle.dwz_graph.proofs.FileCounts.{are_many}
use Rattle.dwz_layout.specs.declared.known.EntryTable.{EntryTable}
use Rattle.dwz_layout.specs.declared.order.UnitItems.{UnitItems}
use Rattle.dwz_encode.specs.Shown.{Keys, ShowFiles, unit_count}
use Rattle.dwz_law_layout.specs.Beside.{Beside}
use Rattle.dwz_law_layout.specs.Facts.{AreFacts, RunFacts, common, files_written, move, run, units}
use Rattle.dwz_law_layout.specs.Either.{first_unit_by, put_by}
use Rattle.dwz_run_files.specs.Prepared.{AreRanks, IsOrdered, IsRank, firsts_from}
use Rattle.dwz_law_layout.proofs.PartHomes.{file_read_there}

-- the first unit of an order comes behind those of the orders before it
pub first_counted : (start : ℕ) (orders : List (List UnitItems)) (i first : ℕ) → slice_get (firsts_from start orders) i ≡ Some first
    → first ≡ start + unit_count (take i orders)
unfolding firsts_from unit_count
first_counted start [] i first e = absurd cc
first_counted start (o ∷ orders) zero first e = (let same : start ≡ first = cc in omega arith)
first_counted start (o ∷ orders) (suc i) first e = (let rest = first_counted (start + length o) orders i first e in omega arith)

-- there are as many of them as orders
pub firsts_many : (start : ℕ) (orders : List (List UnitItems)) → length (firsts_from start orders) ≡ length orders
unfolding firsts_from
firsts_many start [] = refl
firsts_many start (o ∷ orders) = ap suc (firsts_many (start + length o) orders)

-- as many orders as files are shown
pub shown_many : {K : Type 0} (keys : Keys K) (k : EntryTable) (unit : ℕ) (orders : List (List UnitItems)) (outs : List (FileOut K))
    → ShowFiles keys k unit orders outs → length orders ≡ length outs
shown_many keys k unit [] [] h = refl
shown_many keys k unit [] (x ∷ outs) h = absurd h
shown_many keys k unit (o ∷ orders) [] h = absurd h
shown_many keys k unit (o ∷ orders) (x ∷ outs) h = ap suc (shown_many keys k (unit + length o) orders outs h.1)

-- a file that is written has a rank
pub record HasRank {beside : Beside} (f : RunFacts beside) (ranks : List (Option ℕ)) (n : ℕ) : Type 0 where
  pub rank : ℕ
  pub listed : slice_get ranks n ≡ Some (Some rank)
  pub is : slice_get (files_written f) rank ≡ Some n

pub rank_there : {beside : Beside} (f : RunFacts beside) (ranks : List (Option ℕ)) → AreFacts f → AreRanks f ranks → (n : ℕ) → changes (move f) (units f) n ≡ true
    → HasRank f ranks n
rank_there f ranks facts are n moves = by got.0 got.1 (are.each n got.0 got.1) where
  got : (r : Option ℕ) × (slice_get ranks n ≡ Some r)
  got =
      let read = file_read_there f facts n moves in
      let below = got_below f.files n read.x read.has.file in
      let many = are_many f.contents f.files f.indexes facts.kept facts.indexed in
      let files = many.0 in
      let long = are.many in
      got_there ranks n (omega (arith, below, files, long))

  by : (r : Option ℕ) → slice_get ranks n ≡ Some r → IsRank f n r → HasRank f ranks n
  by None e is = let z : true ≡ false = sym moves ∙ is in absurd (let w : true ≡ false = z in cc)
  by (Some rank) e is = record { rank = rank; listed = e; is = is.1 }

-- where as many orders are shown as files are written, with the common one, the order of that rank is there
pub order_there : {beside : Beside} (f : RunFacts beside) (orders : List (List UnitItems)) (rank n : ℕ) → length orders ≡ length (put_by f)
    → slice_get (files_written f) rank ≡ Some n
    → (order : List UnitItems) × IsOrdered f orders n rank (first_unit_by beside + unit_count (take (suc rank) orders)) order
order_there f orders rank n many is =
    let below = got_below (files_written f) rank n is in
    let long = length-map (files_written f) (file_out_by (common f) (run f)) in
    let got = got_there orders (suc rank) (omega (arith, below, long, many)) in
    (got.0, record { file = is; order_is = got.1; first_is = refl })

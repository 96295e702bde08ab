-- Files that were read, planned and settled, with the order of all that is written, and with the lists that a layout looks into.
use Rattle.std.specs.Prelude.{◌≡◌, ℕ, suc, false, true, List, [], ◌∷◌, length, Option, Some, None, ◌+◌, slice_get, take}
use Rattle.dwz_def_images.specs.Units.{changes}
use Rattle.dwz_def_readback.specs.AllFiles.{AreRead}
use Rattle.dwz_layout_order.specs.declared.orders.Settled.{Settled}
use Rattle.dwz_layout_order.specs.Ordered.{AreOrders, AreOrdersOver}
use Rattle.dwz_layout.specs.declared.known.EntryTable.{EntryTable}
use Rattle.dwz_layout.specs.declared.order.UnitItems.{UnitItems}
use Rattle.dwz_encode.specs.Shown.{unit_count}
use Rattle.dwz_graph.specs.Index.{Index}
use Rattle.dwz_law_layout.specs.Beside.{Alone, Beside, Over}
use Rattle.dwz_law_layout.specs.Facts.{AreFacts, RunFacts, docs, files_written, move, units}
use Rattle.dwz_law_layout.specs.Listed.{AreListed, TextsAt}
use Rattle.dwz_law_layout.specs.Settled.{IsSettled}
use Rattle.dwz_law_layout.specs.Either.{AreBeside, IsOrderBy, first_unit_by}

-- the order is that of what is settled; of a common file that stands nothing is written
abbrev pub AreOrdersBy : Beside → List (List ℕ) → List Index → Settled → List (List UnitItems) → Type 0
AreOrdersBy Alone contents indexes s orders = AreOrders contents indexes s orders
AreOrdersBy (Over c) contents indexes s orders = AreOrdersOver contents indexes s orders

-- The order is that of what is settled, and the lists are of the files, whose texts stand there.
pub record ArePrepared {beside : Beside} (f : RunFacts beside) (s : Settled) (t : TextsAt) (k : EntryTable) (orders : List (List UnitItems)) : Type 0 where
  pub facts : AreFacts f
  pub beside_are : AreBeside beside f
  pub read : AreRead f.input (docs f)
  pub settled : IsSettled f s
  pub ordered : AreOrdersBy beside f.contents f.indexes s orders
  pub listed : AreListed f t k

-- The file with that number is written, and has that rank among those that are. Its units are in this order, and the first of them has
-- that number among all units, those of a common file that stands before all that are written. The common file has the first order.
pub record IsOrdered {beside : Beside} (f : RunFacts beside) (orders : List (List UnitItems)) (n rank first : ℕ) (order : List UnitItems) : Type 0 where
  pub file : slice_get (files_written f) rank ≡ Some n
  pub order_is : slice_get orders (suc rank) ≡ Some order
  pub first_is : first ≡ first_unit_by beside + unit_count (take (suc rank) orders)

-- ---- which files are written

-- the rank of the file with that number, or none where nothing of it moves
abbrev pub IsRank : {beside : Beside} → RunFacts beside → ℕ → Option ℕ → Type 0
IsRank f n None = changes (move f) (units f) n ≡ false
IsRank f n (Some rank) = (changes (move f) (units f) n ≡ true) × (slice_get (files_written f) rank ≡ Some n)

-- there is an answer for each file
pub record AreRanks {beside : Beside} (f : RunFacts beside) (ranks : List (Option ℕ)) : Type 0 where
  pub many : length ranks ≡ length (docs f)
  pub each : (n : ℕ) (rank : Option ℕ) → slice_get ranks n ≡ Some rank → IsRank f n rank

-- for each order the number of its first unit among all units that are written, where the first order has that one
unfoldable pub firsts_from : ℕ → List (List UnitItems) → List ℕ
firsts_from first [] = []
firsts_from first (order ∷ orders) = first ∷ firsts_from (first + length order) orders

-- ---- in the end

-- The order is one of the common file, if it is made, and the files that are written, with what is in these lists. So it can be laid.
pub record CanLay {beside : Beside} (f : RunFacts beside) (t : TextsAt) (k : EntryTable) (orders : List (List UnitItems)) : Type 0 where
  pub facts : AreFacts f
  pub beside_are : AreBeside beside f
  pub read : AreRead f.input (docs f)
  pub listed : AreListed f t k
  pub order : IsOrderBy beside f k orders

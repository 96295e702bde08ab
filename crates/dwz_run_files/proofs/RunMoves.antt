-- All files that are written move, one after the other, so that what is settled can be laid.
use Rattle.std.proofs.Common.{◌≡◌, ℕ, suc, ◌+◌, List, [], ◌∷◌, Option, Some, None, slice_get, take, refl, sym, subst}
use Rattle.dwz_def_images.specs.Units.{common_units, out_units}
use Rattle.dwz_layout.specs.declared.known.EntryTable.{EntryTable}
use Rattle.dwz_layout.specs.declared.order.UnitItems.{UnitItems}
use Rattle.dwz_encode.specs.Shown.{unit_count}
use Rattle.dwz_law_layout.specs.Knows.{NewNumbers}
use Rattle.dwz_layout_order.specs.declared.orders.Settled.{Settled}
use Rattle.dwz_law_layout.specs.Beside.{Alone, Beside, Over}
use Rattle.dwz_law_layout.specs.Facts.{RunFacts, files_written, move, units}
use Rattle.dwz_law_layout.specs.Listed.{TextsAt}
use Rattle.dwz_law_layout.specs.Unfitted.{KnowTexts}
use Rattle.dwz_law_layout.specs.Laid.{AreFew, FilesTexts, run_numbers}
use Rattle.dwz_law_layout.proofs.OrderOfRun.{settled_order}
use Rattle.dwz_law_layout.specs.Either.{IsOrderBy, first_unit_by}
use Rattle.dwz_law_layout.proofs.Either.{settled_over}
use Rattle.dwz_encode_texts.specs.declared.pruning.PrunedFile.{PrunedFile}
use Rattle.dwz_run_files.specs.Moved.{AreMoved, ArePruned}
use Rattle.dwz_run_files.specs.Prepared.{ArePrepared, IsOrdered}
use Rattle.dwz_run_files.specs.Whole.{StandWhole, TextsKnownBy}
use Rattle.dwz_run_files.specs.MovedLaws.{MovedLaw, OrderLaw}
use Rattle.dwz_run_files.proofs.CommonMoves.{common_moves}
use Rattle.dwz_run_files.proofs.FileMoves.{file_moves}
use Rattle.dwz_run_files.proofs.ListsMove.{lists_moved, texts_in}

module _ {beside : Beside} (f : RunFacts beside) (k m : EntryTable) (numbers : ℕ → NewNumbers) where
  files_move : (files : List ℕ) (orders : List (List UnitItems))
      → ((j n : ℕ) (order : List UnitItems) → slice_get files j ≡ Some n → slice_get orders j ≡ Some order
      → KnowTexts f k None n order (out_units (move f) (units f) n) → KnowTexts f m (numbers n) n order (out_units (move f) (units f) n))
      → FilesTexts f k (λ n. None) files orders → FilesTexts f m numbers files orders
  files_move [] [] one old = tt
  files_move [] (order ∷ orders) one old = absurd old
  files_move (n ∷ files) [] one old = absurd old
  files_move (n ∷ files) (order ∷ orders) one old =
      (one 0 n order refl refl old.0, files_move files orders (λ j x o e g. one (suc j) x o e g) old.1)

module _ {beside : Beside} (f : RunFacts beside) (s : Settled) (t : TextsAt) (k : EntryTable) (pruned : List (Option PrunedFile))
    (m : EntryTable) (h : AreMoved pruned k m) where
  -- the texts of the files, which are written behind the first order
  behind_move : (first : List UnitItems) (orders : List (List UnitItems)) → ArePrepared f s t k (first ∷ orders)
      → StandWhole f k (first ∷ orders) → ArePruned f k (first ∷ orders) pruned
      → FilesTexts f k (λ n. None) (files_written f) orders → FilesTexts f m (run_numbers f) (files_written f) orders
  behind_move first orders p stand are old =
      files_move f k m (run_numbers f) (files_written f) orders
      (λ j n order e g texts.
      (let here = first_unit_by beside + unit_count (take (suc j) (first ∷ orders)) in
      let is : IsOrdered f (first ∷ orders) n j here order = record { file = e; order_is = g; first_is = refl } in
      file_moves f s t k (first ∷ orders) p stand pruned m h n j here order is (are n j here order is) texts)) old

  prepared : (orders : List (List UnitItems)) → ArePrepared f s t k orders → ArePrepared f s (texts_in m) m orders
  prepared orders p = record {
    facts = p.facts;
    beside_are = p.beside_are;
    read = p.read;
    settled = p.settled;
    ordered = p.ordered;
    listed = lists_moved f t k p.listed pruned m h;
  }

-- so all texts
texts_move : (beside : Beside) (f : RunFacts beside) (s : Settled) (t : TextsAt) (k : EntryTable) (pruned : List (Option PrunedFile)) (m : EntryTable)
    → AreMoved pruned k m → (orders : List (List UnitItems)) → ArePrepared f s t k orders → StandWhole f k orders → ArePruned f k orders pruned
    → TextsKnownBy beside f m (run_numbers f) orders
texts_move Alone f s t k pruned m h [] p stand are = absurd stand.known
texts_move Alone f s t k pruned m h (first ∷ orders) p stand are = (
  common_moves f k pruned m h first (common_units (move f)) (stand.pooled first orders refl) stand.known.0,
  behind_move f s t k pruned m h first orders p stand are stand.known.1,
)
texts_move (Over c) f s t k pruned m h [] p stand are = absurd stand.known
texts_move (Over c) f s t k pruned m h (first ∷ orders) p stand are =
    (stand.known.0, behind_move f s t k pruned m h first orders p stand are stand.known.1)

pub run_moved : MovedLaw
run_moved = λ beside f s t k orders p stand pruned are m h.
    (texts_in m, prepared f s t k pruned m h orders p, texts_move beside f s t k pruned m h orders p stand are)

-- ---- what is settled can be laid

-- where texts stand
order_of : (beside : Beside) (f : RunFacts beside) (s : Settled) (t : TextsAt) (k : EntryTable) (orders : List (List UnitItems))
    → ArePrepared f s t k orders → AreFew f → TextsKnownBy beside f k (run_numbers f) orders → IsOrderBy beside f k orders
order_of Alone f s t k orders p few texts =
    settled_order f t k s p.facts p.listed p.settled few p.read orders p.ordered texts
order_of (Over c) f s t k orders p few texts =
    let o = p.ordered in
    let told : TextsKnownBy (Over c) f k (run_numbers f) ([] ∷ o.others) =
    subst (λ (w : List (List UnitItems)). TextsKnownBy (Over c) f k (run_numbers f) w) o.orders_are texts in
    subst (λ (w : List (List UnitItems)). IsOrderBy (Over c) f k w) (sym o.orders_are)
    (settled_over c f t k s p.facts p.beside_are p.listed p.settled few p.read o.files o.kept o.others o.files_put told.1)

pub run_order : OrderLaw
run_order = λ beside f s t k orders p stand few pruned are m h. (
    let after = prepared f s t k pruned m h orders p in (
      texts_in m,
      record {
        facts = p.facts;
        beside_are = p.beside_are;
        read = p.read;
        listed = after.listed;
        order = order_of beside f s (texts_in m) m orders after few (texts_move beside f s t k pruned m h orders p stand are);
      },
    ))

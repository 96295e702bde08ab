-- What holds of files whose units are in order, before texts are taken out that nothing uses, and then.
use Rattle.std.specs.Prelude.{◌≡◌, ℕ, All, IsSome, List, Option}
use Rattle.dwz_def_reading.specs.Texts.{text_at}
use Rattle.dwz_def_encoding.specs.Pruned.{units_uses}
use Rattle.dwz_def_readback.specs.Files.{formed_by, sources}
use Rattle.dwz_layout.specs.declared.known.EntryTable.{EntryTable}
use Rattle.dwz_layout.specs.declared.order.UnitItems.{UnitItems}
use Rattle.dwz_layout_order.specs.declared.orders.Settled.{Settled}
use Rattle.dwz_law_layout.specs.Beside.{Beside}
use Rattle.dwz_law_layout.specs.Facts.{RunFacts, common, run}
use Rattle.dwz_law_layout.specs.Listed.{TextsAt}
use Rattle.dwz_law_layout.specs.Laid.{AreFew, run_numbers}
use Rattle.dwz_encode_texts.specs.declared.pruning.PrunedFile.{PrunedFile}
use Rattle.dwz_encode_texts.specs.Used.{order_uses}
use Rattle.dwz_run_files.specs.Moved.{AreMoved, ArePruned}
use Rattle.dwz_run_files.specs.Prepared.{ArePrepared, CanLay, IsOrdered}
use Rattle.dwz_run_files.specs.Whole.{StandWhole, TextsKnownBy}

-- Where all texts stand while none is taken out, and those of the common file are few, the texts that are counted in the order of a file
-- are those that its units after use, and each names a text of the file.
abbrev pub UsesLaw : Type 0
UsesLaw =
    (beside : Beside) (f : RunFacts beside) (s : Settled) (t : TextsAt) (k : EntryTable) (orders : List (List UnitItems)) → ArePrepared f s t k orders
    → StandWhole f k orders → AreFew f → (n rank first : ℕ) (order : List UnitItems) → IsOrdered f orders n rank first order
    → (order_uses k first order ≡ units_uses (formed_by (common f) (run f) n))
    × All (λ used. IsSome (text_at (sources (run f) n).strs used)) (order_uses k first order)

-- Once just the texts stay that are used, the lists are those of the files with texts at their new places, and all stand where the
-- definitions say, with the new numbers of the run.
abbrev pub MovedLaw : Type 0
MovedLaw =
    (beside : Beside) (f : RunFacts beside) (s : Settled) (t : TextsAt) (k : EntryTable) (orders : List (List UnitItems)) → ArePrepared f s t k orders
    → StandWhole f k orders → (pruned : List (Option PrunedFile)) → ArePruned f k orders pruned
    → (moved : EntryTable) → AreMoved pruned k moved
    → (after : TextsAt) × ArePrepared f s after moved orders × TextsKnownBy beside f moved (run_numbers f) orders

-- So what is settled can be laid.
abbrev pub OrderLaw : Type 0
OrderLaw =
    (beside : Beside) (f : RunFacts beside) (s : Settled) (t : TextsAt) (k : EntryTable) (orders : List (List UnitItems)) → ArePrepared f s t k orders
    → StandWhole f k orders → AreFew f → (pruned : List (Option PrunedFile)) → ArePruned f k orders pruned
    → (moved : EntryTable) → AreMoved pruned k moved → (after : TextsAt) × CanLay f after moved orders

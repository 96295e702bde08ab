-- What the units of the common file say, by the order in which they are written.
use Rattle.std.specs.Prelude.{◌≡◌, List, [], ◌∷◌}
use Rattle.dwz_layout_order.specs.declared.orders.Settled.{Settled}
use Rattle.dwz_layout_order.specs.Ordered.{AreOrders}
use Rattle.dwz_layout.specs.declared.known.EntryTable.{EntryTable}
use Rattle.dwz_layout.specs.declared.order.UnitItems.{UnitItems}
use Rattle.dwz_def_readback.specs.Files.{paths, texts}
use Rattle.dwz_law_layout.specs.Beside.{Alone}
use Rattle.dwz_law_layout.specs.Facts.{AreFacts, RunFacts, run}
use Rattle.dwz_law_layout.specs.Listed.{AreListed, TextsAt}
use Rattle.dwz_law_layout.specs.Settled.{IsSettled}
use Rattle.dwz_encode_common.specs.Gathered.{with_all}
use Rattle.dwz_encode_common.specs.Paths.{order_paths}
use Rattle.dwz_encode_common.specs.Stored.{order_texts}

-- The files are settled, nothing stands beside them, the lists are of these files, and the units of the common file are written in that
-- order, before those of the other files.
pub record IsCommonOrder (f : RunFacts Alone) (k : EntryTable) (order : List UnitItems) : Type 0 where
  pub facts : AreFacts f
  pub t : TextsAt
  pub listed : AreListed f t k
  pub s : Settled
  pub settled : IsSettled f s
  pub others : List (List UnitItems)
  pub ordered : AreOrders f.contents f.indexes s (order ∷ others)

-- then their texts, each once, are those of the common file
abbrev pub CommonTextsLaw : Type 0
CommonTextsLaw =
    (f : RunFacts Alone) (k : EntryTable) (order : List UnitItems) → IsCommonOrder f k order
    → with_all [] (order_texts f.contents k order) ≡ texts (run f)

-- and the paths of the files that they number, each once, are those of its line table
abbrev pub CommonPathsLaw : Type 0
CommonPathsLaw =
    (f : RunFacts Alone) (k : EntryTable) (order : List UnitItems) → IsCommonOrder f k order
    → with_all [] (order_paths f.files k order) ≡ paths (run f)

-- A run: what is settled of its files, what is written of them, and their lists.
use Rattle.std.specs.Prelude.{◌≡◌, ◌+◌, ℕ, List, length, map}
use Rattle.dwz_def_tops.specs.Spots.{file_numbers}
use Rattle.dwz_def_readback.specs.Files.{imports_common}
use Rattle.dwz_graph.specs.declared.file.File.{File}
use Rattle.dwz_graph.specs.Files.{docs_of}
use Rattle.dwz_graph.specs.Indexed.{AreIndexes}
use Rattle.dwz_layout.specs.declared.known.EntryTable.{EntryTable}
use Rattle.dwz_layout.specs.declared.order.UnitItems.{UnitItems}
use Rattle.dwz_layout_numbers.specs.declared.numbers.UnitNumbers.{UnitNumbers}
use Rattle.dwz_law_layout.specs.Beside.{Alone}
use Rattle.dwz_law_layout.specs.Facts.{RunFacts, docs, move, units, written}
use Rattle.dwz_law_layout.specs.Listed.{AreListed, TextsAt}
use Rattle.dwz_layout_order.specs.declared.orders.Settled.{Settled}
use Rattle.dwz_layout_order.specs.Ordered.{AreOrders, AreSettled}
use Rattle.dwz_law_layout.specs.Settled.{IsSettled}
use Rattle.dwz_encode_texts.specs.Files.{texts_in_file}
use Rattle.dwz_encode_texts.specs.Names.{HaveNames}
use Rattle.dwz_layout_input.specs.Settled.{AreFactsOf, ArePlanned, Lends}
use Rattle.dwz_run_files.specs.Numbered.{AreNumbersOf}
use Rattle.dwz_run_files.specs.NumberLaws.{HasFlags}
use Rattle.dwz_layout_input.specs.Needs.{AreMade}
use Rattle.dwz_run_files.specs.Prepared.{AreRanks, firsts_from}
use Rattle.dwz_run_files.specs.declared.settled.SettledRun.{SettledRun}
use Rattle.dwz_run_files.specs.declared.ordered.OrderedFiles.{OrderedFiles}

-- facts of these files, which share so
abbrev pub AreTheirs : List (List ℕ) → SettledRun → RunFacts Alone → Type 0
AreTheirs contents a f = AreFactsOf contents a.indexes.now a.settled.scope a.settled.planned f

-- The files with these contents have these indexes, and they are planned and settled, in that scope; and there is a flag for each that
-- says whether it imports from the common file.
pub record IsSettledRun (contents : List (List ℕ)) (a : SettledRun) : Type 0 where
  pub indexed : AreIndexes (docs_of contents) a.indexes.now
  pub planned : ArePlanned a.settled.scope (docs_of contents) a.settled.planned
  pub settled : (f : RunFacts Alone) (s : Settled) → AreTheirs contents a f → Lends a.settled s → IsSettled f s
  pub fits : (s : Settled) → Lends a.settled s → AreSettled (length contents + 1) s
  pub flags : HasFlags contents a.indexes.now a.settled.scope a.settled.planned a.settled
  pub importing : (f : RunFacts Alone) → AreTheirs contents a f
      → a.settled.importing.items ≡ map (imports_common (move f) (units f)) (file_numbers 0 (docs f))

-- what is settled of them is written in this order
pub record IsInOrder (contents : List (List ℕ)) (a : SettledRun) (orders : List (List UnitItems)) : Type 0 where
  pub lent : Settled
  pub lends : Lends a.settled lent
  pub are : AreOrders contents a.indexes.now lent orders

-- so it is, and the files have these ranks and the orders these first units
pub record AreOrdered (contents : List (List ℕ)) (a : SettledRun) (o : OrderedFiles) : Type 0 where
  pub order : IsInOrder contents a o.orders.items
  pub ranks : (f : RunFacts Alone) → a.settled.written.items ≡ written f → AreRanks f o.ranks.items
  pub firsts : o.firsts.items ≡ firsts_from 0 o.orders.items

-- The lists are those of the files, with these numbers of units, and the texts stand in them where they were read. What they have of texts
-- and paths in the common file, where its texts aren't known yet, counts for nothing.
pub record AreListedAsRead (contents : List (List ℕ)) (files : List File) (a : SettledRun) (k : EntryTable) : Type 0 where
  pub numbers : UnitNumbers
  pub numbered : AreNumbersOf (docs_of contents) a.settled.planned.plan a.settled.written.items numbers
  pub texts : TextsAt
  pub texts_are : texts.files ≡ map texts_in_file files
  pub names : HaveNames contents a.indexes.now texts.spaces
  pub listed : (f : RunFacts Alone) → AreMade f files a.indexes.now a.settled.planned.plan numbers → AreListed f texts k

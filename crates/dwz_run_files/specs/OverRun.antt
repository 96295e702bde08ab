-- Files over a finished common file: what is settled of them, what is written, and their lists.
use Rattle.std.specs.Prelude.{◌≡◌, ℕ, List, length, map}
use Rattle.dwz_def_reading.specs.Documents.{Doc}
use Rattle.dwz_def_tops.specs.Spots.{file_numbers}
use Rattle.dwz_def_readback.specs.Files.{imports_common}
use Rattle.dwz_def_taken.specs.Beside.{reused_of}
use Rattle.dwz_def_taken.specs.Laws.{ArePlacedOver}
use Rattle.dwz_def_taken.specs.Takes.{IsFixed}
use Rattle.dwz_unit.specs.Rows.{units_of as raw_units}
use Rattle.dwz_graph.specs.declared.file.File.{File}
use Rattle.dwz_graph.specs.Files.{docs_of}
use Rattle.dwz_graph.specs.Indexed.{AreIndexes}
use Rattle.dwz_layout_input.specs.PlannedOver.{ArePlannedOver, IsTakenFrom}
use Rattle.dwz_layout.specs.declared.known.EntryTable.{EntryTable}
use Rattle.dwz_layout_numbers.specs.declared.numbers.UnitNumbers.{UnitNumbers}
use Rattle.dwz_law_layout.specs.Beside.{Over, Standing}
use Rattle.dwz_law_layout.specs.Facts.{RunFacts, docs, move, units, written}
use Rattle.dwz_law_layout.specs.Listed.{AreListed, TextsAt}
use Rattle.dwz_layout_order.specs.declared.orders.Settled.{Settled}
use Rattle.dwz_layout_order.specs.Ordered.{AreOrdersOver, AreSettled}
use Rattle.dwz_law_layout.specs.Settled.{IsSettled}
use Rattle.dwz_encode_texts.specs.Files.{texts_in_file}
use Rattle.dwz_encode_texts.specs.Names.{HaveNames}
use Rattle.dwz_layout_input.specs.Needs.{AreMade}
use Rattle.dwz_layout_input.specs.Over.{IsBehind}
use Rattle.dwz_layout_input.specs.Settled.{Lends}
use Rattle.dwz_layout_input.specs.SettledOver.{AreFactsOver}
use Rattle.dwz_run_files.specs.Numbered.{AreNumbersOf}
use Rattle.dwz_run_files.specs.Prepared.{AreRanks, firsts_from}
use Rattle.dwz_run_files.specs.declared.settled.SettledRun.{SettledRun}
use Rattle.dwz_run_files.specs.declared.ordered.OrderedFiles.{OrderedFiles}
use Rattle.dwz_run_files.specs.declared.standing.StandingCommon.{StandingCommon}

-- the common file that stands is this one, with its index and what is taken of it, beside files that say these documents
pub record IsStanding (s : Standing) (docs : List (Doc ℕ)) (b : StandingCommon) : Type 0 where
  pub taken : IsTakenFrom docs b.common.now b.index b.fixed.now s.doc
  pub behind : IsBehind docs s.doc b.index
  pub fixed_is : b.fixed.now ≡ s.fixed
  pub raw_is : raw_units b.common.now.units ≡ s.file.raw

-- facts of these files over that common file
abbrev pub AreTheirsOver : List (List ℕ) → SettledRun → (s : Standing) → RunFacts (Over s) → Type 0
AreTheirsOver contents a s f = AreFactsOver contents a.indexes.now a.settled.planned s f

-- The files with these contents have these indexes, and they are planned and settled over that common file; and there is a flag for each
-- that says whether it imports from it.
pub record IsSettledOver (s : Standing) (contents : List (List ℕ)) (a : SettledRun) : Type 0 where
  pub indexed : AreIndexes (docs_of contents) a.indexes.now
  pub placed : ArePlacedOver (docs_of contents) s.doc
  pub fixed : IsFixed (reused_of (docs_of contents) s.doc) s.fixed
  pub planned : ArePlannedOver (docs_of contents) s.doc s.fixed a.settled.planned
  pub settled : (f : RunFacts (Over s)) (t : Settled) → AreTheirsOver contents a s f → Lends a.settled t → IsSettled f t
  pub fits : (t : Settled) → Lends a.settled t → AreSettled (length contents) t
  pub many : length a.settled.written.items ≡ length contents
  pub importing : (f : RunFacts (Over s)) → AreTheirsOver contents a s f
      → a.settled.importing.items ≡ map (imports_common (move f) (units f)) (file_numbers 0 (docs f))

-- What is settled of them is written in this order, the files have these ranks, and the orders these first units, behind those of the
-- common file.
pub record AreOrderedOver (s : Standing) (contents : List (List ℕ)) (a : SettledRun) (o : OrderedFiles) : Type 0 where
  pub lent : Settled
  pub lends : Lends a.settled lent
  pub are : AreOrdersOver contents a.indexes.now lent o.orders.items
  pub ranks : (f : RunFacts (Over s)) → a.settled.written.items ≡ written f → AreRanks f o.ranks.items
  pub firsts : o.firsts.items ≡ firsts_from (length s.file.raw) o.orders.items

-- The lists are those of the files, with these numbers of units, and the texts stand in them where they were read.
pub record AreListedOver (s : Standing) (contents : List (List ℕ)) (files : List File) (a : SettledRun) (k : EntryTable) : Type 0 where
  pub numbers : UnitNumbers
  pub numbered : AreNumbersOf (docs_of contents) a.settled.planned.plan a.settled.written.items numbers
  pub texts : TextsAt
  pub texts_are : texts.files ≡ map texts_in_file files
  pub names : HaveNames contents a.indexes.now texts.spaces
  pub listed : (f : RunFacts (Over s)) → f.contents ≡ contents → AreMade f files a.indexes.now a.settled.planned.plan numbers
      → AreListed f texts k

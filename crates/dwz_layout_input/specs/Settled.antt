-- What is asked of planned files, what is settled of them, and which facts they have.
use Rattle.std.specs.Prelude.{◌≡◌, ℕ, List, length}
use Rattle.dwz_def_reading.specs.Documents.{Doc}
use Rattle.dwz_def_reading.specs.Values.{AreBytes}
use Rattle.dwz_def_reading.specs.Lists.{Each}
use Rattle.dwz_def_tops.specs.Spots.{units_of}
use Rattle.dwz_graph.specs.Files.{AreKept, docs_of}
use Rattle.dwz_graph.specs.Index.{Index}
use Rattle.dwz_graph.specs.Indexed.{AreIndexes}
use Rattle.dwz_plan.specs.declared.plan.Scope.{Scope}
use Rattle.dwz_plan.specs.Shows.{ShowsPlan}
use Rattle.dwz_move_files.specs.Outlines.{IsOutline}
use Rattle.dwz_layout_input.specs.declared.planned.PlannedFiles.{PlannedFiles}
use Rattle.dwz_layout_input.specs.Fits.{FitsFiles}
use Rattle.dwz_layout_input.specs.Rules.{rule_by}
use Rattle.dwz_layout_numbers.specs.Owners.{AreUnitNumbers}
use Rattle.dwz_law_layout.specs.Beside.{Alone, Beside}
use Rattle.dwz_law_layout.specs.Facts.{AreFacts, IsStoredSo, RunFacts, docs, move, units, written}
use Rattle.dwz_layout_order.specs.declared.orders.Settled.{Settled}
use Rattle.dwz_layout_input.specs.declared.settled.SettledFiles.{SettledFiles}

-- the tops of these files, which share so, and their plan
pub record ArePlanned (sharing : Scope) (docs : List (Doc ℕ)) (p : PlannedFiles) : Type 0 where
  pub outline : IsOutline docs p.tops
  pub plan : ShowsPlan (rule_by sharing docs) (units_of docs) (length docs) p.plan
  pub fits : FitsFiles sharing docs p.tops p.plan

-- the facts are of files with these contents and indexes, which share so, and of their plan
pub record AreFactsOf (contents : List (List ℕ)) (indexes : List Index) (sharing : Scope) (p : PlannedFiles) (f : RunFacts Alone) : Type 0 where
  pub contents_are : f.contents ≡ contents
  pub indexes_are : f.indexes ≡ indexes
  pub rule_is : f.rule ≡ rule_by sharing (docs_of contents)
  pub plan_is : f.planned ≡ p.plan

-- what is settled is lent so
pub record Lends (r : SettledFiles) (s : Settled) : Type 0 where
  pub plan : s.plan.now ≡ r.planned.plan
  pub tops : s.marks.tops.now ≡ r.marks.items
  pub spaces : s.marks.spaces.now ≡ r.pinned.items
  pub rows : s.rows.now ≡ r.spaces.rows.items
  pub of_tops : s.of_tops.now ≡ r.spaces.of_tops.items
  pub lines : s.lines.now ≡ r.lines.items
  pub files : s.files.now ≡ r.written.items

-- the files were read, are stored so, and have these indexes
pub record AreStored {beside : Beside} (f : RunFacts beside) : Type 0 where
  pub bytes : Each AreBytes f.contents
  pub kept : AreKept f.contents f.files
  pub indexed : AreIndexes (docs f) f.indexes
  pub stored : IsStoredSo f

-- facts of stored files and their plan, whose units are numbered, are facts
abbrev pub FactsLaw : Type 0
FactsLaw =
    (contents : List (List ℕ)) (indexes : List Index) (sharing : Scope) (p : PlannedFiles) (f : RunFacts Alone)
    → ArePlanned sharing (docs_of contents) p → AreFactsOf contents indexes sharing p f
    → AreStored f → AreUnitNumbers (move f) (units f) (written f) f.commons f.parts f.olds → AreFacts f

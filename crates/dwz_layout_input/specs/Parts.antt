-- Inner: no public clause cites what follows. What is settled of files, part by part.
use Rattle.std.specs.Prelude.{◌≡◌, ℕ, ◌<◌, ◌^◌, All, List, length, map}
use Rattle.dwz_def_reading.specs.Documents.{Doc}
use Rattle.dwz_def_tops.specs.Spots.{file_numbers, units_of}
use Rattle.dwz_def_images.specs.Moves.{Move}
use Rattle.dwz_def_images.specs.Units.{changes}
use Rattle.dwz_def_readback.specs.Files.{imports_common}
use Rattle.dwz_graph.specs.Files.{docs_of}
use Rattle.dwz_graph.specs.Index.{Index}
use Rattle.dwz_layout_order.specs.Behind.{ArePlannedFirst}
use Rattle.dwz_layout_order.specs.Marks.{mark_at, mark_of}
use Rattle.dwz_plan.specs.declared.plan.Partial.{Partial}
use Rattle.dwz_layout_input.specs.declared.planned.PlannedFiles.{PlannedFiles}
use Rattle.dwz_layout_input.specs.Known.{AreSpaces}
use Rattle.dwz_layout_input.specs.Pinned.{ArePinned}
use Rattle.dwz_layout_input.specs.Roots.{AreLines}
use Rattle.dwz_law_layout.specs.Beside.{Beside}
use Rattle.dwz_law_layout.specs.Facts.{IsMade, RunFacts, docs, move, units}
use Rattle.dwz_law_layout.specs.Moving.{MovesSo}
use Rattle.dwz_layout_input.specs.declared.settled.SettledFiles.{SettledFiles}

-- of line tables and files, by the move that the plan shows
pub record AreMoved (m : Move) (docs : List (Doc ℕ)) (r : SettledFiles) : Type 0 where
  pub lines : AreLines m (units_of docs) r.lines.items
  pub written : r.written.items ≡ map (changes m (units_of docs)) (file_numbers 0 docs)
  pub importing : r.importing.items ≡ map (imports_common m (units_of docs)) (file_numbers 0 docs)

-- of files with these contents and indexes that are planned so, of their tops and spaces
pub record AreParts (contents : List (List ℕ)) (indexes : List Index) (p : PlannedFiles) (r : SettledFiles) : Type 0 where
  pub planned : r.planned ≡ p
  pub marks : (k : ℕ) → k < length p.tops.rows → mark_at r.marks.items k ≡ mark_of p.tops.rows p.plan.homes k
  pub pinned : ArePinned (units_of (docs_of contents)) r.pinned.items
  pub spaces : AreSpaces (docs_of contents) indexes r.spaces
  pub moved : (m : Move) → ArePlannedFirst m (units_of (docs_of contents)) (length (docs_of contents)) p.tops p.plan
      → AreMoved m (docs_of contents) r

-- the facts are of files with these contents and indexes, and of their plan, which shows their move
pub record ArePlannedOf {beside : Beside} (contents : List (List ℕ)) (indexes : List Index) (p : PlannedFiles) (f : RunFacts beside) : Type 0
  where
    pub contents_are : f.contents ≡ contents
    pub indexes_are : f.indexes ≡ indexes
    pub plan_is : f.planned ≡ p.plan
    pub first : ArePlannedFirst (move f) (units f) (length (docs f)) p.tops p.plan
    pub goes : MovesSo (IsMade f) (move f) (units f)

-- there are few partial units, with few tops; those of files with numbers below `count` hold some of so many tops
pub record HoldSome (count many : ℕ) (parts : List Partial) : Type 0 where
  pub few : length parts < 2 ^ 32
  pub few_tops : All (λ part. length part.tops < 2 ^ 32) parts
  pub inside : All (λ part. part.file < count → All (λ t. t < many) part.tops) parts

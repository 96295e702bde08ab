-- Files that are laid, and one of them of which something moves.
use Rattle.std.specs.Prelude.{◌≡◌, ◌<◌, ◌^◌, ℕ, true, List, length, Option, Some, None, slice_get}
use Rattle.dwz_def_tops.specs.Lists.{Nth}
use Rattle.dwz_def_images.specs.Units.{changes}
use Rattle.dwz_def_encoding.specs.Writing.{joined}
use Rattle.dwz_def_readback.specs.Files.{CommonFile, Run, sections_by}
use Rattle.dwz_def_output.specs.Contents.{if_other}
use Rattle.dwz_unit.specs.Rows.{units_of as raw_units}
use Rattle.dwz_graph.specs.EntryCounts.{starts_from}
use Rattle.dwz_graph.specs.AllNames.{AreTopEntries}
use Rattle.dwz_encode.specs.Pages.{units_page}
use Rattle.dwz_law_layout.specs.Beside.{Beside}
use Rattle.dwz_law_layout.specs.Facts.{HasFile, RunFacts, common, every, move, run, units}
use Rattle.dwz_law_layout.specs.Either.{laid_by}
use Rattle.dwz_run_files.specs.Prepared.{IsRank}
use Rattle.dwz_encode_operands.specs.NumberLaws.{AreUnitPlaces}
use Rattle.dwz_encode_texts.specs.declared.pruning.PrunedFile.{PrunedFile}
use Rattle.dwz_def_output.specs.declared.new_file.NewFile.{NewFile}
use Rattle.dwz_def_output.specs.NewFiles.{IsNewOrOldBy}
use Rattle.dwz_run_files.specs.declared.prepared.PreparedFiles.{PreparedFiles}
use Rattle.dwz_run_files.specs.Ready.{IsReady}
use Rattle.dwz_run_files.specs.declared.moved.FileAfter.{FileAfter}
use Rattle.dwz_run_files.specs.declared.work.LaidRun.{LaidRun}

-- ---- all files

-- the facts are of these files, which are few and ready to be laid
pub record WorksOf {beside : Beside} (f : RunFacts beside) (p : PreparedFiles) : Type 0 where
  pub ready : IsReady f p
  pub few : length p.files.now < 2 ^ 32
  pub files_are : f.files ≡ p.files.now
  pub indexes_are : f.indexes ≡ p.run.indexes.now
  pub plan_is : f.planned ≡ p.run.settled.planned.plan

-- they are laid, and their entries and tops are counted so
pub record IsWork {beside : Beside} (f : RunFacts beside) (w : LaidRun) : Type 0 where
  pub works : WorksOf f w.prepared.now
  pub layout_is : w.layout.now ≡ laid_by beside w.prepared.now.known w.prepared.now.ordered.orders.items
  pub starts_are : w.starts.now ≡ starts_from 0 f.indexes
  pub tops_are : AreTopEntries (every f) w.tops.now

-- the file with that number is written, and has that rank among those that are
abbrev pub HasRank : {beside : Beside} → RunFacts beside → ℕ → ℕ → Type 0
HasRank f number rank = IsRank f number (Some rank)

-- ---- one file

-- It is one of the files, with its index and where it is counted and laid, and something of it moves. The bytes of its units and its
-- tables are those of the run.
pub record IsMoved {beside : Beside} (f : RunFacts beside) (w : LaidRun) (m : FileAfter) : Type 0 where
  pub works : IsWork f w
  pub moves : changes (move f) (units f) m.number ≡ true
  pub bytes : List ℕ
  pub has : HasFile f m.number bytes m.file.now m.index.now
  pub start_is : slice_get (starts_from 0 f.indexes) m.number ≡ Some m.start
  pub info : units_page w.prepared.now.known w.layout.now.places w.layout.now.roots m.first m.units.now m.laid.now.units.items
      ≡ (sections_by (common f) (run f) m.number).info
  pub abbrevs : joined m.laid.now.tables ≡ (sections_by (common f) (run f) m.number).abbrevs

-- each unit of the file has the place where it begins after
abbrev pub HaveUnitPlaces : {beside : Beside} → RunFacts beside → FileAfter → List ℕ → Type 0
HaveUnitPlaces f m units_at = AreUnitPlaces f m.index.now.starts.unit (raw_units m.file.now.units) units_at

-- the sections of texts and of their slots, where some texts are taken out
abbrev pub other_strs : List ℕ → Option PrunedFile → Option (List ℕ)
other_strs old None = None
other_strs old (Some p) = if_other old p.strs.bytes

abbrev pub other_offsets : List ℕ → Option PrunedFile → Option (List ℕ)
other_offsets old None = None
other_offsets old (Some p) = if_other old p.offsets.items

-- ---- what is made

-- there is an answer for each file, which says what is new in it
pub record AreNewFiles (k : CommonFile) (r : Run) (made : List (Option NewFile)) : Type 0 where
  pub many : length made ≡ length r.files
  pub each : (file : ℕ) (new : Option NewFile) → Nth 0 made file new → IsNewOrOldBy k r file new

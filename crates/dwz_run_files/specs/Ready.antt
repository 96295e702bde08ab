-- Files that are ready to be laid.
use Rattle.std.specs.Prelude.{◌≡◌, ◌<◌, ◌^◌, ℕ, true, false, Bool, List, length, Option, Some, None, map}
use Rattle.dwz_def_tops.specs.Spots.{file_numbers, tops_of, units_of}
use Rattle.dwz_def_images.specs.Units.{changes}
use Rattle.dwz_def_readback.specs.Files.{CommonFile, Run, imports_common}
use Rattle.dwz_def_output.specs.Written.{stored_of}
use Rattle.dwz_law_layout.specs.Beside.{Alone, Beside}
use Rattle.dwz_law_layout.specs.Facts.{RunFacts, common, docs, every, move, run, units}
use Rattle.dwz_law_layout.specs.Listed.{TextsAt}
use Rattle.dwz_run_files.specs.Moved.{pruned_at}
use Rattle.dwz_run_files.specs.Prepared.{AreRanks, CanLay, firsts_from}
use Rattle.dwz_law_layout.specs.Either.{first_unit_by}
use Rattle.dwz_layout_input.specs.Rules.{rule_by}
use Rattle.dwz_graph.specs.Files.{docs_of}
use Rattle.dwz_encode_texts.specs.declared.pruning.PrunedFile.{PrunedFile}
use Rattle.dwz_encode_texts.specs.UseLaws.{ArePrunedBy}
use Rattle.dwz_run_files.specs.declared.prepared.PreparedFiles.{PreparedFiles}
use Rattle.dwz_run_files.specs.declared.prepared.ReadyRun.{ReadyRun}
use Rattle.dwz_run_files.specs.Common.{HasTexts}

-- the facts are of files with these contents, which share so, are stored with these flags, and are prepared so
pub record AreFactsOf (contents : List (List ℕ)) (prunes : List Bool) (p : PreparedFiles) (f : RunFacts Alone) : Type 0 where
  pub contents_are : f.contents ≡ contents
  pub input_is : f.input ≡ stored_of contents prunes
  pub rule_is : f.rule ≡ rule_by p.run.settled.scope (docs_of contents)
  pub files_are : f.files ≡ p.files.now
  pub indexes_are : f.indexes ≡ p.run.indexes.now
  pub plan_is : f.planned ≡ p.run.settled.planned.plan

-- of a file that is prunable just the texts stay that are used, with their slots; and of any other all stay
abbrev pub IsPruned : CommonFile → Run → ℕ → Option PrunedFile → Type 0
IsPruned k r n None = r.input.prunes n ≡ false
IsPruned k r n (Some p) = (r.input.prunes n ≡ true) × ArePrunedBy k r n p

-- What is written of these files can be laid, in this order and with these lists, where the texts stand that stay; and there is a flag for
-- each that says whether it imports from the common file.
pub record IsReady {beside : Beside} (f : RunFacts beside) (p : PreparedFiles) : Type 0 where
  pub texts : TextsAt
  pub can : CanLay f texts p.known p.ordered.orders.items
  pub stand_ins : length p.run.settled.planned.plan.stand_ins ≡ length (tops_of (units_of (every f)))
  pub few_parts : length p.run.settled.planned.plan.partials < 2 ^ 32
  pub ranks : AreRanks f p.ordered.ranks.items
  pub firsts : p.ordered.firsts.items ≡ firsts_from (first_unit_by beside) p.ordered.orders.items
  pub pruned : (n : ℕ) → changes (move f) (units f) n ≡ true → IsPruned (common f) (run f) n (pruned_at p.pruned.items n)
  pub importing : p.run.settled.importing.items ≡ map (imports_common (move f) (units f)) (file_numbers 0 (docs f))

-- there are such facts, with these texts of the common file
pub record AreReady (contents : List (List ℕ)) (prunes : List Bool) (r : ReadyRun) : Type 0 where
  pub facts : RunFacts Alone
  pub theirs : AreFactsOf contents prunes r.files facts
  pub ready : IsReady facts r.files
  pub texts : HasTexts (run facts) r.common

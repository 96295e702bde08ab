-- Files whose texts were taken out and moved are ready to be laid.
use Rattle.std.proofs.Common.{◌≡◌, ◌<◌, ◌^◌, ℕ, Bool, List, length, Option, refl, sym, ap, subst, ◌∙◌, arith}
use Rattle.dwz_def_tops.specs.Spots.{tops_of, units_of}
use Rattle.dwz_graph.specs.declared.file.File.{File}
use Rattle.dwz_graph.specs.Files.{docs_of}
use Rattle.dwz_layout.specs.declared.known.EntryTable.{EntryTable}
use Rattle.dwz_law_layout.specs.Beside.{Alone}
use Rattle.dwz_law_layout.specs.Facts.{RunFacts, run}
use Rattle.dwz_encode_texts.specs.declared.pruning.PrunedFile.{PrunedFile}
use Rattle.dwz_layout_input.specs.Rules.{rule_by}
use Rattle.dwz_run_files.specs.Moved.{AreMoved, ArePruned}
use Rattle.dwz_run_files.specs.declared.settled.SettledRun.{SettledRun}
use Rattle.dwz_run_files.specs.declared.ordered.OrderedFiles.{OrderedFiles}
use Rattle.dwz_run_files.specs.declared.common.WholeLists.{WholeLists}
use Rattle.dwz_run_files.specs.declared.prepared.ReadyRun.{ReadyRun}
use Rattle.dwz_run_files.specs.Common.{HasTexts, AreWhole}
use Rattle.dwz_run_files.specs.Ready.{AreReady}
use Rattle.dwz_run_files.proofs.FactsJoined.{AreJoined, importing, joined, told}
use Rattle.dwz_run_files.proofs.FilesTold.{is_ready as is_ready_so}

module _ (contents : List (List ℕ)) (files : List File) (prunes : List Bool) (a : SettledRun) (o : OrderedFiles) (k : EntryTable)
    (j : AreJoined contents files prunes a o k) (w : WholeLists)
    (whole : AreWhole (joined contents files prunes a o k j) j.ordered.order.lent o.orders.items w) where
  abbrev f : RunFacts Alone
  f = joined contents files prunes a o k j

  module _ (pruned : List (Option PrunedFile)) (m : EntryTable) (are : ArePruned f w.known o.orders.items pruned) (moved : AreMoved pruned w.known m) where
    few_parts : length a.settled.planned.plan.partials < 2 ^ 32
    few_parts = (let fits = j.settled.planned.fits in let parts = fits.few_parts in let rows = fits.few_rows in omega (arith, parts, rows))

    pub is_ready : (r : ReadyRun) → r.files.files.now ≡ files → r.files.run ≡ a → r.files.ordered ≡ o → r.files.known ≡ m
        → r.files.pruned.items ≡ pruned → r.common ≡ w.common → AreReady contents prunes r
    is_ready r of_files of_run of_ordered of_known of_pruned of_common = record {
      facts = f;
      theirs = record {
        contents_are = refl;
        input_is = refl;
        rule_is = ap (λ (x : SettledRun). rule_by x.settled.scope (docs_of contents)) (sym of_run);
        files_are = sym of_files;
        indexes_are = ap (λ (x : SettledRun). x.indexes.now) (sym of_run);
        plan_is = ap (λ (x : SettledRun). x.settled.planned.plan) (sym of_run);
      };
      ready =
          is_ready_so f contents prunes j.ordered.order.lent o w.known (told contents files prunes a o k j w whole) pruned m are moved r.files
          of_ordered of_known of_pruned
          (subst (λ (x : SettledRun). length x.settled.planned.plan.stand_ins ≡ length (tops_of (units_of (docs_of contents)))) (sym of_run)
          j.settled.planned.fits.stand_ins)
          (subst (λ (x : SettledRun). length x.settled.planned.plan.partials < 2 ^ 32) (sym of_run) few_parts)
          (ap (λ (x : SettledRun). x.settled.importing.items) of_run ∙ importing contents files prunes a o k j);
      texts = subst (HasTexts (run f)) (sym of_common) whole.common;
    }

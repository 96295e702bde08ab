-- Files over a finished common file, with its texts in their lists, are ready to be laid.
use Rattle.std.proofs.Common.{◌≡◌, ◌<◌, ◌^◌, ℕ, Bool, List, Option, [], length, refl, sym, ap, subst, ◌∙◌, arith}
use Rattle.dwz_def_tops.specs.Spots.{tops_of, units_of}
use Rattle.dwz_def_output.specs.NewFiles.{AreNewBy}
use Rattle.dwz_def_output.specs.declared.new_file.NewFile.{NewFile}
use Rattle.dwz_def_readback.specs.Files.{Run, texts_from}
use Rattle.dwz_def_over.specs.Over.{OverFiles, run_over, stands}
use Rattle.dwz_graph.specs.declared.file.File.{File}
use Rattle.dwz_graph.specs.Files.{FilesRead}
use Rattle.dwz_graph.proofs.FileCounts.{are_many}
use Rattle.dwz_graph.specs.EntryCounts.{starts_from}
use Rattle.dwz_layout.specs.declared.known.EntryTable.{EntryTable}
use Rattle.dwz_law_layout.specs.Beside.{Over}
use Rattle.dwz_law_layout.specs.Facts.{RunFacts, every, run}
use Rattle.dwz_law_layout.specs.Listed.{AreListed, TextsAt}
use Rattle.dwz_law_layout.specs.CommonRows.{standing_beside}
use Rattle.dwz_encode_texts.specs.declared.pruning.PrunedFile.{PrunedFile}
use Rattle.dwz_encode_common.specs.WithCommon.{IsWithStanding, texts_held}
use Rattle.dwz_encode_common.proofs.SharedEntries.{rows_long}
use Rattle.dwz_run_files.specs.Moved.{AreMoved, ArePruned}
use Rattle.dwz_run_files.specs.Pruned.{AreFilesWritten, UsesNameTexts}
use Rattle.dwz_run_files.specs.ReadyOver.{AreReadyOver}
use Rattle.dwz_run_files.specs.Works.{AreNewFiles}
use Rattle.dwz_run_files.specs.declared.ordered.OrderedFiles.{OrderedFiles}
use Rattle.dwz_run_files.specs.declared.prepared.PreparedFiles.{PreparedFiles}
use Rattle.dwz_run_files.specs.declared.pruned.Written.{Written}
use Rattle.dwz_run_files.specs.declared.settled.SettledRun.{SettledRun}
use Rattle.dwz_run_files.specs.declared.standing.StandingCommon.{StandingCommon}
use Rattle.dwz_run_files.proofs.FilesMade.{are_new_by}
use Rattle.dwz_run_files.proofs.FilesTold.{AreTold, files_written_are, is_ready, ranks_long, texts_named}
use Rattle.dwz_run_files.proofs.OverJoined.{AreJoinedOver, facts, few_parts, importing, joined, prepared, run_is, stand_ins, told}

module _ (graph : FilesRead) (files : List File) (prunes : List Bool) (b : StandingCommon) (x : OverFiles) (a : SettledRun) (o : OrderedFiles)
    (k : EntryTable) (j : AreJoinedOver graph files prunes b x a o k) where
  abbrev f : RunFacts (Over (standing_beside x))
  f = joined graph files prunes b x a o k j

  -- there are rows for each file
  pub rows_many : length k.files.items ≡ length files
  rows_many =
      rows_long f f.files f.indexes (starts_from 0 f.indexes) j.listed.texts.files k.files.items (prepared graph files prunes b x a o k j).listed.rows

  module _ (sharing : List Bool) (shares : sharing ≡ a.settled.importing.items) (words : List (List ℕ))
      (words_are : words ≡ texts_from [] b.common.now.sections.strs.bytes.now) (m : EntryTable) (has : IsWithStanding files words sharing k m)
      (listed : (g : RunFacts (Over (standing_beside x))) (t : TextsAt) → AreListed g t k → AreListed g (texts_held m) m) where
    known : AreTold f graph.given prunes j.ordered.lent o m
    known = told graph files prunes b x a o k j sharing shares words words_are m has listed

    module _ (w : Written) (ranks : w.ranks.now ≡ o.ranks.items) (orders : w.orders.now ≡ o.orders.items) (firsts : w.firsts.now ≡ o.firsts.items) where
      pub named : UsesNameTexts graph.given m w
      named = texts_named f graph.given prunes j.ordered.lent o m known w ranks orders firsts

      pub long : length w.ranks.now ≡ length graph.given
      long = ranks_long f graph.given prunes j.ordered.lent o m known w ranks orders firsts

      pub written_are : AreFilesWritten f graph.given w prunes
      written_are = files_written_are f graph.given prunes j.ordered.lent o m known w ranks orders firsts

    -- once texts are taken out
    pub ready_over : length graph.given < 2 ^ 32 → (pruned : List (Option PrunedFile)) (after : EntryTable) → ArePruned f m o.orders.items pruned
        → AreMoved pruned m after → (p : PreparedFiles) → p.files.now ≡ files → p.run ≡ a → p.ordered ≡ o → p.known ≡ after
        → p.pruned.items ≡ pruned → AreReadyOver x graph.given p
    ready_over few pruned after are moved p of_files of_run of_ordered of_known of_pruned =
        let fs = facts graph files prunes b x a o k j in
        let many = are_many f.contents f.files f.indexes fs.kept fs.indexed in
        let files_many = many.0 in
        let contents_many = many.2 in
        let same = ap (λ (xs : List File). length xs) of_files in
        record {
          facts = f;
          contents_are = refl;
          run_is = run_is graph files prunes b x a o k j;
          works = record {
            ready =
                is_ready f graph.given prunes j.ordered.lent o m known pruned after are moved p of_ordered of_known of_pruned
                (subst (λ (r : SettledRun). length r.settled.planned.plan.stand_ins ≡ length (tops_of (units_of (every f)))) (sym of_run)
                (stand_ins graph files prunes b x a o k j))
                (subst (λ (r : SettledRun). length r.settled.planned.plan.partials < 2 ^ 32) (sym of_run)
                (few_parts graph files prunes b x a o k j))
                (ap (λ (r : SettledRun). r.settled.importing.items) of_run ∙ importing graph files prunes b x a o k j);
            few = omega (arith, files_many, contents_many, same, few);
            files_are = sym of_files;
            indexes_are = ap (λ (r : SettledRun). r.indexes.now) (sym of_run);
            plan_is = ap (λ (r : SettledRun). r.settled.planned.plan) (sym of_run);
          };
        }

-- what is new in them is new in the files of the run over the common file
pub new_over : (x : OverFiles) (contents : List (List ℕ)) (p : PreparedFiles) (r : AreReadyOver x contents p) (made : List (Option NewFile))
    (partials : ℕ) → AreNewFiles (stands x) (run r.facts) made → partials ≡ length p.run.settled.planned.plan.partials
    → AreNewBy (stands x) (run_over x) made partials
new_over x contents p r made partials are parts =
    subst (λ (w : Run). AreNewBy (stands x) w made partials) r.run_is
    (are_new_by (stands x) r.facts r.works.ready.can.facts made partials are (parts ∙ ap (λ q. length q.partials) (sym r.works.plan_is)))

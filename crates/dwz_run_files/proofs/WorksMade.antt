-- Files that are ready are laid, and their entries are few.
use Rattle.std.proofs.Common.{◌≡◌, ◌+◌, ◌<◌, ◌≤◌, ◌^◌, ℕ, Bool, List, length, get_or, Option, None, Some, slice_get, sym, ap, subst, ◌∙◌, arith}
use Rattle.std.specs.Prelude.{All}
use Rattle.std.proofs.lemmas.Option.{slice_get-get_or}
use Rattle.dwz_def_tops.proofs.FileNumbers.{numbers_long}
use Rattle.dwz_graph.proofs.FileCounts.{are_many}
use Rattle.dwz_graph.proofs.FilesFew.{all_small}
use Rattle.dwz_graph.specs.declared.file.File.{File}
use Rattle.dwz_graph.specs.Index.{Index}
use Rattle.dwz_graph.specs.EntryCounts.{entry_count, starts_from, tops_from}
use Rattle.dwz_graph.specs.AllNames.{AreTopEntries}
use Rattle.dwz_layout_numbers.proofs.WholeLemmas.{all_inside, top_entries}
use Rattle.dwz_layout_input.proofs.Fits.{whole}
use Rattle.dwz_layout.specs.declared.order.UnitItems.{UnitItems}
use Rattle.dwz_law_layout.specs.Beside.{Alone, Beside}
use Rattle.dwz_law_layout.specs.Facts.{AreFacts, RunFacts, docs, every, run}
use Rattle.dwz_law_layout.specs.Either.{laid_by}
use Rattle.dwz_run_files.specs.Prepared.{IsRank}
use Rattle.dwz_run_files.specs.declared.prepared.PreparedFiles.{PreparedFiles}
use Rattle.dwz_run_files.specs.declared.prepared.ReadyRun.{ReadyRun}
use Rattle.dwz_run_files.specs.Ready.{AreReady}
use Rattle.dwz_run_files.specs.declared.work.LaidRun.{LaidRun}
use Rattle.dwz_run_files.specs.Works.{IsWork, WorksOf}

-- what is ready, of few files
pub works_of : (contents : List (List ℕ)) (prunes : List Bool) (all : ReadyRun) (r : AreReady contents prunes all)
    → length contents < 2 ^ 32
    → WorksOf r.facts all.files
works_of contents prunes all r few =
    let f = r.facts in
    let facts : AreFacts f = r.ready.can.facts in
    let many = are_many f.contents f.files f.indexes facts.kept facts.indexed in
    let files = many.0 in
    let kept = many.2 in
    let same = ap (λ (xs : List File). length xs) r.theirs.files_are in
    let contents_same = ap (λ (xs : List (List ℕ)). length xs) r.theirs.contents_are in
    record {
      ready = r.ready;
      few = omega (arith, files, kept, same, contents_same, few);
      files_are = r.theirs.files_are;
      indexes_are = r.theirs.indexes_are;
      plan_is = r.theirs.plan_is;
    }

-- there are few partial units
pub parts_few : (contents : List (List ℕ)) (prunes : List Bool) (all : ReadyRun) → AreReady contents prunes all
    → length all.files.run.settled.planned.plan.partials < 2 ^ 32
parts_few contents prunes all r = r.ready.few_parts

module _ {beside : Beside} (f : RunFacts beside) (p : PreparedFiles) (works : WorksOf f p) (xs : List Index) (same : xs ≡ p.run.indexes.now) where
  facts : AreFacts f
  facts = works.ready.can.facts

  theirs : f.indexes ≡ xs
  theirs = works.indexes_are ∙ sym same

  pub entries_few : entry_count xs < 2 ^ 32
  entries_few =
      let small = all_small f.contents f.files f.indexes facts.kept facts.indexed in
      let entries = small.entries in
      subst (λ (ys : List Index). entry_count ys < 2 ^ 32) theirs (omega (arith, entries))

  -- and a common file behind them has few
  pub entries_behind : (n : ℕ) → n ≤ 2 ^ 28 → entry_count xs + n < 2 ^ 32
  entries_behind n few =
      let small = all_small f.contents f.files f.indexes facts.kept facts.indexed in
      let entries = small.entries in
      subst (λ (ys : List Index). entry_count ys + n < 2 ^ 32) theirs (omega (arith, entries, few))

  pub tops_inside : All (λ x. All (λ t. t.entry < length x.steps) x.tops) xs
  tops_inside =
      subst (λ (ys : List Index). All (λ x. All (λ t. t.entry < length x.steps) x.tops) ys) theirs
      (all_inside (docs f) f.indexes facts.indexed (whole f.contents f.files facts.kept))

-- where no common file stands, tops are counted so
pub tops_alone : (f : RunFacts Alone) (p : PreparedFiles) → WorksOf f p → (xs : List Index) → xs ≡ p.run.indexes.now → (ts got : List ℕ) → ts ≡ got
    → got ≡ tops_from 0 xs → AreTopEntries (every f) ts
tops_alone f p works xs same ts got is made =
    let are = facts f p works xs same in
    let theirs_are : ts ≡ tops_from 0 f.indexes = is ∙ made ∙ ap (tops_from 0) (sym (theirs f p works xs same)) in
    subst (AreTopEntries (docs f)) (sym theirs_are) (top_entries (docs f) f.indexes are.indexed (whole f.contents f.files are.kept))

-- the files are laid by these lists
pub work_made : {beside : Beside} (f : RunFacts beside) (w : LaidRun) → WorksOf f w.prepared.now → (xs : List Index) (os : List (List UnitItems)) (ss : List ℕ)
    → xs ≡ w.prepared.now.run.indexes.now → os ≡ w.prepared.now.ordered.orders.items → w.layout.now ≡ laid_by beside w.prepared.now.known os
    → w.starts.now ≡ ss → ss ≡ starts_from 0 xs → AreTopEntries (every f) w.tops.now → IsWork f w
work_made {beside} f w works xs os ss indexes orders layout starts begin tops =
    let same : xs ≡ f.indexes = indexes ∙ sym works.indexes_are in
    record {
      works = works;
      layout_is = layout ∙ ap (laid_by beside w.prepared.now.known) orders;
      starts_are = starts ∙ begin ∙ ap (starts_from 0) same;
      tops_are = tops;
    }

-- ---- file by file

module _ {beside : Beside} (f : RunFacts beside) (w : LaidRun) (is : IsWork f w) (ranks : List (Option ℕ)) (same : ranks ≡ w.prepared.now.ordered.ranks.items) where
  pub rank_found : (n : ℕ) (rank : Option ℕ) → n < length ranks → rank ≡ get_or ranks n None → IsRank f n rank
  rank_found n rank less at =
      let there : slice_get w.prepared.now.ordered.ranks.items n ≡ Some rank =
      ap (λ (rs : List (Option ℕ)). slice_get rs n) (sym same) ∙ slice_get-get_or ranks n None less
      ∙ ap (λ (r : Option ℕ). Some r) (sym at) in
      is.works.ready.ranks.each n rank there

  pub ranks_long : length ranks ≡ length (run f).files
  ranks_long = ap (λ (rs : List (Option ℕ)). length rs) same ∙ is.works.ready.ranks.many ∙ sym (numbers_long 0 (docs f))

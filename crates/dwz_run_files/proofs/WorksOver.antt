-- Files over a common file that stands are laid behind it.
use Rattle.std.proofs.Common.{◌≡◌, ℕ, List, [], ◌∷◌, ◌++◌, refl, sym, ap, subst, ◌∙◌}
use Rattle.dwz_def_reading.specs.Documents.{Doc}
use Rattle.dwz_def_reading.specs.Units.{RawUnit}
use Rattle.dwz_def_taken.specs.Beside.{compile_doc}
use Rattle.dwz_graph.specs.Indexed.{AreIndexes}
use Rattle.dwz_graph.specs.EntryCounts.{starts_from}
use Rattle.dwz_graph.specs.AllNames.{AreTopEntries}
use Rattle.dwz_layout_numbers.specs.Whole.{AreWhole}
use Rattle.dwz_layout_input.specs.Over.{IsBehind}
use Rattle.dwz_layout_input.proofs.Fits.{whole}
use Rattle.dwz_layout.specs.declared.order.UnitItems.{UnitItems}
use Rattle.dwz_layout.specs.Laid.{over_of, standing_view}
use Rattle.dwz_law_layout.specs.Beside.{Over, Standing}
use Rattle.dwz_law_layout.specs.Facts.{RunFacts, docs, every}
use Rattle.dwz_law_layout.specs.Either.{view_of}
use Rattle.dwz_run_files.specs.declared.standing.StandingCommon.{StandingCommon}
use Rattle.dwz_run_files.specs.declared.work.LaidRun.{LaidRun}
use Rattle.dwz_run_files.specs.OverRun.{IsStanding}
use Rattle.dwz_run_files.specs.Works.{IsWork, WorksOf}
use Rattle.dwz_run_files.proofs.WorksMade.{work_made}

pub work_over : (s : Standing) (f : RunFacts (Over s)) (w : LaidRun) → WorksOf f w.prepared.now → (b : StandingCommon) → IsStanding s (docs f) b
    → (os : List (List UnitItems)) (ss ts : List ℕ) → os ≡ w.prepared.now.ordered.orders.items
    → w.layout.now ≡ over_of w.prepared.now.known (standing_view b.common.now.units) os
    → w.starts.now ≡ ss → ss ≡ starts_from 0 w.prepared.now.run.indexes.now → w.tops.now ≡ ts
    → ((ds : List (Doc ℕ)) (common : Doc ℕ) → AreIndexes ds w.prepared.now.run.indexes.now → AreWhole ds → IsBehind ds common b.index
    → AreTopEntries (ds ++ compile_doc common ∷ []) ts)
    → IsWork f w
work_over s f w works b is os ss ts orders layout starts begin tops are =
    let facts = works.ready.can.facts in
    let indexed : AreIndexes (docs f) w.prepared.now.run.indexes.now = subst (AreIndexes (docs f)) works.indexes_are facts.indexed in
    let behind = ap (λ (raw : List RawUnit). over_of w.prepared.now.known (view_of raw) os) is.raw_is in
    work_made f w works w.prepared.now.run.indexes.now os ss refl orders (layout ∙ behind) starts begin
    (subst (AreTopEntries (every f)) (sym tops) (are (docs f) s.doc indexed (whole f.contents f.files facts.kept) is.behind))

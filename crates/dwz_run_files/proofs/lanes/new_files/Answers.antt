use Rattle.std.proofs.Common.{◌≡◌, ℕ, length, map, refl, sym, subst, arith}
use Rattle.std.specs.Vec.Iter.{into_iter_items}
use Rattle.dwz_law_layout.specs.Facts.{common, run}
use Rattle.dwz_run_files.specs.Lanes.{AreLanes}
use Rattle.dwz_run_files.proofs.LanesDealt.{all_new}
use Rattle.dwz_run_files.proofs.WorksMade.{ranks_long}
use Rattle.dwz_run_files.proofs.lanes.new_files.Goals as goal

pub returns-then-step-lt2 : goal.returns-then-step-lt2
returns-then-step-lt2 g c beside f is = all_new (common f) (run f) c.every.result (c.every.ensures beside f is)

pub take_turns-requires-clause-lanes : goal.take_turns-requires-clause-lanes
take_turns-requires-clause-lanes g c =
    let beside = c.requires.work.0 in
    let f = c.requires.work.1 in
    let is = c.requires.work.2 in
    let ranks = c.args.work.now.prepared.now.ordered.ranks in
    let long = ranks_long f c.args.work.now is ranks.items refl in (
      common f,
      run f,
      subst (λ (step : ℕ). AreLanes (common f) (run f) step 0 (map into_iter_items c.in_ok-lanes.lanes.items)) (sym c.in_ok-lanes.ensures.len)
          (c.in_ok-lanes.ensures.each beside f is),
      omega (arith, long, c.len-count.ensures, ranks.ok.0),
    )

pub returns : goal.returns
returns g c beside f is =
    let ranks = c.args.work.now.prepared.now.ordered.ranks in
    let long = ranks_long f c.args.work.now is ranks.items refl in
    let count : c.len-count.result ≡ length (run f).files = omega (arith, long, c.len-count.ensures, ranks.ok.0) in
    c.take_turns.ensures (common f) (run f)
    (subst (λ (step : ℕ). AreLanes (common f) (run f) step 0 (map into_iter_items c.in_ok-lanes.lanes.items)) (sym c.in_ok-lanes.ensures.len)
    (c.in_ok-lanes.ensures.each beside f is))
    count

use Rattle.std.proofs.Common.{◌<◌, ◌≤◌, List, [], ◌∷◌, ◌++◌, length, Option, sym, subst, append-nil, append_assoc, arith}
use Rattle.dwz_law_layout.specs.Facts.{common, run}
use Rattle.dwz_def_output.specs.declared.new_file.NewFile.{NewFile}
use Rattle.dwz_run_files.specs.Lanes.{AreEvery}
use Rattle.dwz_run_files.proofs.WorksMade.{rank_found, ranks_long}
use Rattle.dwz_run_files.proofs.lanes.every.Goals as goal

pub new_or_old-requires-clause-work : goal.new_or_old-requires-clause-work
new_or_old-requires-clause-work g c κs within =
    let r = c.requires.work in (
      r.0,
      r.1,
      r.2,
      rank_found r.1 c.args.work.now r.2 c.as_slice-ranks.result.now c.as_slice-ranks.ensures.value c.loop-number.number c.rank_at-rank.result
          c.loop-number-test.true
          c.rank_at-rank.ensures,
    )

pub loop-number-preserved : goal.loop-number-preserved
loop-number-preserved g c = λ beside f is rest are. (
    let n = c.loop-number.number in
    let ranks = c.as_slice-ranks.result.now in
    let same = c.as_slice-ranks.ensures.value in
    let new = c.in_ok-new.new in
    let long = ranks_long f c.args.work.now is ranks same in
    let less : n < length (run f).files = omega (arith, long, c.loop-number-test.true) in
    let rank = rank_found f c.args.work.now is ranks same n c.rank_at-rank.result c.loop-number-test.true c.rank_at-rank.ensures in
    subst (λ (made : List (Option NewFile)). AreEvery (common f) (run f) c.args.step c.args.first (made ++ rest)) (sym c.in_ok-push.ensures.items)
    (subst (AreEvery (common f) (run f) c.args.step c.args.first) (sym (append_assoc c.loop-number.made.items (new ∷ []) rest))
    (c.loop-number.invariant beside f is (new ∷ rest) (less, c.in_ok-new.ensures beside f is rank, are))))

pub returns : goal.returns
returns g c = λ beside f is. (
    let long = ranks_long f c.args.work.now is c.as_slice-ranks.result.now c.as_slice-ranks.ensures.value in
    let end : length (run f).files ≤ c.loop-number.number = omega (arith, long, c.loop-number-test.false) in
    subst (AreEvery (common f) (run f) c.args.step c.args.first) (append-nil c.loop-number.made.items) (c.loop-number.invariant beside f is [] end))

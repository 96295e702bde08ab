use Rattle.std.proofs.Common.{List, Option, ℕ, ap, length, ◌∙◌}
use Rattle.dwz_run_files.proofs.RankSteps.{ranking_end, ranks_many, ranks_so}
use Rattle.dwz_run_files.proofs.ranks.ranks_of.Goals as goal

pub returns-clause-many : goal.returns-clause-many
returns-clause-many c =
    ap (λ (w : List (Option ℕ)). length w)
    (ranking_end c.args.written.now c.loop-is_written.is_written-index c.loop-is_written.next c.loop-is_written.ranks.items
    c.loop-is_written-test.false c.loop-is_written.invariant)
    ∙ ranks_many 0 c.args.written.now

pub returns-clause-ranks : goal.returns-clause-ranks
returns-clause-ranks c = λ beside f is.
    ranks_so f c.args.written.now c.loop-is_written.ranks.items is
    (ranking_end c.args.written.now c.loop-is_written.is_written-index c.loop-is_written.next c.loop-is_written.ranks.items
    c.loop-is_written-test.false c.loop-is_written.invariant)

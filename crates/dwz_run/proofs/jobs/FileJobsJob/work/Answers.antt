use Rattle.std.proofs.Common.{ℕ, Vec, Global, map}
use Rattle.dwz_def_run.specs.Reuses.{common_got}
use Rattle.dwz_def_run.specs.Yields.{batching}
use Rattle.dwz_law_batch.specs.Jobs.{file_at}
use Rattle.dwz_run.proofs.jobs.FileJobsJob.work.Goals as goal

pub returns-in-Ok : goal.returns-in-Ok
returns-in-Ok g c =
    let o = batching c.args.self.now.options.now in
    let contents = map (λ (v : Vec ℕ Global). v.items) c.args.self.now.contents.now in
    (c.outcome_of.ensures.job o (common_got contents) (file_at o contents c.args.i) c.in-Ok.ensures.0, c.outcome_of.ensures.section)

use Rattle.std.proofs.Common.{◌∙◌, sym}
use Rattle.dwz_run.proofs.OneJob.{put_alone}
use Rattle.dwz_run.proofs.jobs.outcome_of.Goals as goal

pub returns-in-Some-clause-job : goal.returns-in-Some-clause-job
returns-in-Some-clause-job c o common file alone =
    put_alone o common file c.args.output c.pop.new.self.items c.in-Some.field-0 (sym c.into_vec-puts.ensures ∙ c.in-Some.ensures.items) alone

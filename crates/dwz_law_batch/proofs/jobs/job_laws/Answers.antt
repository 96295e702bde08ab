use Rattle.dwz_law_batch.proofs.AllJobs.{jobs_law}
use Rattle.dwz_law_batch.proofs.jobs.job_laws.Goals as goal

pub returns : goal.returns
returns c = record { jobs = jobs_law }

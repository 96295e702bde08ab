use Rattle.dwz_def_run.proofs.OneFile.{output_alone, refusal_alone}
use Rattle.dwz_def_run.proofs.batches.alone_laws.Goals as goal

pub returns-clause-output : goal.returns-clause-output
returns-clause-output c = output_alone

pub returns-clause-refusal : goal.returns-clause-refusal
returns-clause-refusal c = refusal_alone

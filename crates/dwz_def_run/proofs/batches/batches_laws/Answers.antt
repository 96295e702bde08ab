use Rattle.dwz_def_run.proofs.OneBatch.{one_batch, some_batch}
use Rattle.dwz_def_run.proofs.SameWorkers.{workers_law}
use Rattle.dwz_def_run.proofs.BatchesStopping.{alone_law, held_law, keeps_law, not_put_law, stops_law}
use Rattle.dwz_def_run.proofs.batches.batches_laws.Goals as goal

pub returns-clause-one : goal.returns-clause-one
returns-clause-one c = one_batch

pub returns-clause-workers : goal.returns-clause-workers
returns-clause-workers c = workers_law

pub returns-clause-some : goal.returns-clause-some
returns-clause-some c = some_batch

pub returns-clause-alone : goal.returns-clause-alone
returns-clause-alone c = alone_law

pub returns-clause-held : goal.returns-clause-held
returns-clause-held c = held_law

pub returns-clause-not_put : goal.returns-clause-not_put
returns-clause-not_put c = not_put_law

pub returns-clause-stops : goal.returns-clause-stops
returns-clause-stops c = stops_law

pub returns-clause-keeps : goal.returns-clause-keeps
returns-clause-keeps c = keeps_law

use Rattle.dwz_def_reading.proofs.FinishedLemmas.{finished_agrees}
use Rattle.dwz_def_reading.proofs.finished.finished_laws.Goals as goal

pub returns-clause-read : goal.returns-clause-read
returns-clause-read c common files = (finished_agrees common files).ok

pub returns-clause-first : goal.returns-clause-first
returns-clause-first c common files = (finished_agrees common files).err

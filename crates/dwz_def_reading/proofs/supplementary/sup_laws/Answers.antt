use Rattle.dwz_def_reading.proofs.SupLemmas.{sup_again, sup_found, sup_written}
use Rattle.dwz_def_reading.proofs.supplementary.sup_laws.Goals as goal

pub returns-clause-read : goal.returns-clause-read
returns-clause-read c bytes s = (sup_found bytes s, sup_again bytes s)

pub returns-clause-written : goal.returns-clause-written
returns-clause-written c = sup_written

use Rattle.dwz_sup.proofs.CommonReads.{common_fits, common_known}
use Rattle.dwz_sup.proofs.LengthLemmas.{length_common}
use Rattle.dwz_sup.proofs.laws.common_laws.Goals as goal

pub returns-clause-length : goal.returns-clause-length
returns-clause-length c = length_common

pub returns-clause-known : goal.returns-clause-known
returns-clause-known c = common_known

pub returns-clause-fits : goal.returns-clause-fits
returns-clause-fits c = common_fits

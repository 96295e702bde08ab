use Rattle.dwz_law_cross.proofs.ReadLemmas.{given_reads}
use Rattle.dwz_law_cross.proofs.StandLemmas.{common_reads, written_reads}
use Rattle.dwz_law_cross.proofs.read.read_laws.Goals as goal

pub returns-clause-given : goal.returns-clause-given
returns-clause-given c = given_reads

pub returns-clause-written : goal.returns-clause-written
returns-clause-written c = written_reads

pub returns-clause-common : goal.returns-clause-common
returns-clause-common c = common_reads

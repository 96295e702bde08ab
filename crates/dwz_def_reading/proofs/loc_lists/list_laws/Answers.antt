use Rattle.dwz_def_reading.specs.LocLists.{list_at}
use Rattle.dwz_def_reading.specs.Sequences.{read_from}
use Rattle.dwz_def_reading.proofs.AgreeLemmas.{just_one}
use Rattle.dwz_def_reading.proofs.LocListLemmas.{list_reads, stands_agree}
use Rattle.dwz_def_reading.proofs.loc_lists.list_laws.Goals as goal

pub returns-clause-read : goal.returns-clause-read
returns-clause-read g c section place l within = (stands_agree (list_reads c) section place within).ok l

pub returns-clause-fault : goal.returns-clause-fault
returns-clause-fault g c section place f within = (stands_agree (list_reads c) section place within).err f

pub returns-clause-one : goal.returns-clause-one
returns-clause-one g c section place within = just_one (read_from (list_at c) section place) (stands_agree (list_reads c) section place within)

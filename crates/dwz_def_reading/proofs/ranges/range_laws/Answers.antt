use Rattle.dwz_def_reading.proofs.RangeLemmas.{sets_agree}
use Rattle.dwz_def_reading.proofs.ranges.range_laws.Goals as goal

pub returns-clause-read : goal.returns-clause-read
returns-clause-read c is_unit i = (sets_agree is_unit i).ok

pub returns-clause-fault : goal.returns-clause-fault
returns-clause-fault c is_unit i = (sets_agree is_unit i).err

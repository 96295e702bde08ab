use Rattle.dwz_layout_numbers.proofs.ReachLemmas.{common_tells, file_tells, own_tells, written_once}
use Rattle.dwz_layout_numbers.proofs.laws.reach_laws.Goals as goal

pub returns-clause-once : goal.returns-clause-once
returns-clause-once c = written_once

pub returns-clause-own : goal.returns-clause-own
returns-clause-own c = own_tells

pub returns-clause-common : goal.returns-clause-common
returns-clause-common c = common_tells

pub returns-clause-file : goal.returns-clause-file
returns-clause-file c = file_tells

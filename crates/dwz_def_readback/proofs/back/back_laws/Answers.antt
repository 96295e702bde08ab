use Rattle.dwz_def_readback.proofs.AllLemmas.{all_back, can_write}
use Rattle.dwz_def_readback.proofs.CommonLemmas.{common_within}
use Rattle.dwz_def_readback.proofs.OneLemmas.{one_back}
use Rattle.dwz_def_readback.proofs.ReadPlaces.{read_from}
use Rattle.dwz_def_readback.proofs.SaysLemmas.{alone_back, common_back, file_back, ranges_back, written_places}
use Rattle.dwz_def_readback.proofs.SameLemmas.{same_back}
use Rattle.dwz_def_readback.proofs.WithinLemmas.{within}
use Rattle.dwz_def_readback.proofs.Standing.{file_over, placing_over, ranges_over}
use Rattle.dwz_def_readback.proofs.back.back_laws.Goals as goal

pub returns-clause-placing : goal.returns-clause-placing
returns-clause-placing c = written_places

pub returns-clause-common : goal.returns-clause-common
returns-clause-common c r g out can ok = common_back r can g ok out

pub returns-clause-file : goal.returns-clause-file
returns-clause-file c r g out common can ok = file_back r can g ok out common

pub returns-clause-alone : goal.returns-clause-alone
returns-clause-alone c r g out can ok = alone_back r can g ok out

pub returns-clause-same : goal.returns-clause-same
returns-clause-same c = same_back

pub returns-clause-read : goal.returns-clause-read
returns-clause-read c = read_from

pub returns-clause-one : goal.returns-clause-one
returns-clause-one c = one_back

pub returns-clause-within : goal.returns-clause-within
returns-clause-within c = within

pub returns-clause-common_within : goal.returns-clause-common_within
returns-clause-common_within c = common_within

pub returns-clause-can : goal.returns-clause-can
returns-clause-can c = can_write

pub returns-clause-all : goal.returns-clause-all
returns-clause-all c = all_back

pub returns-clause-ranges : goal.returns-clause-ranges
returns-clause-ranges c r g common out can ok = ranges_back r can g ok common out

pub returns-clause-file_over : goal.returns-clause-file_over
returns-clause-file_over c = file_over

pub returns-clause-ranges_over : goal.returns-clause-ranges_over
returns-clause-ranges_over c = ranges_over

pub returns-clause-placing_over : goal.returns-clause-placing_over
returns-clause-placing_over c cf r can = placing_over cf r can

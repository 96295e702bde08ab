use Rattle.dwz_def_reading.proofs.EndLemmas.{rows_end}
use Rattle.dwz_def_reading.proofs.NamedAgain.{names_again, none_again}
use Rattle.dwz_def_reading.proofs.PatchedListLemmas.{list_addresses, list_operands, list_parts, list_stands, slot_stays}
use Rattle.dwz_def_reading.proofs.WriteOver.{rows_patched}
use Rattle.dwz_def_reading.proofs.patched_lists.patched_list_laws.Goals as goal

pub returns-clause-stands : goal.returns-clause-stands
returns-clause-stands g = list_stands

pub returns-clause-parts : goal.returns-clause-parts
returns-clause-parts g number c section place l s = list_parts number c place s.front l s.spelled

pub returns-clause-operands : goal.returns-clause-operands
returns-clause-operands g number l = list_operands number l.exprs

pub returns-clause-addresses : goal.returns-clause-addresses
returns-clause-addresses g number l = list_addresses number l.exprs

pub returns-clause-slots : goal.returns-clause-slots
returns-clause-slots g = slot_stays

pub returns-clause-apart : goal.returns-clause-apart
returns-clause-apart g = none_again

pub returns-clause-named : goal.returns-clause-named
returns-clause-named g lists number s d a b l none there patched can alike names = names_again lists number s d a b l none there patched can alike names

pub returns-clause-written : goal.returns-clause-written
returns-clause-written g = rows_patched

pub returns-clause-within : goal.returns-clause-within
returns-clause-within g = rows_end

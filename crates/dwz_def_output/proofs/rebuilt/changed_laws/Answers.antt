use Rattle.dwz_def_output.proofs.ChangedLemmas.{abbrevs_after, can_change, info_after, ranges_after, sources_are, sup_after}
use Rattle.dwz_def_output.proofs.rebuilt.changed_laws.Goals as goal

pub returns-clause-can : goal.returns-clause-can
returns-clause-can c = can_change

pub returns-clause-info : goal.returns-clause-info
returns-clause-info c = info_after

pub returns-clause-abbrevs : goal.returns-clause-abbrevs
returns-clause-abbrevs c = abbrevs_after

pub returns-clause-sources : goal.returns-clause-sources
returns-clause-sources c = sources_are

pub returns-clause-ranges : goal.returns-clause-ranges
returns-clause-ranges c = ranges_after

pub returns-clause-sup : goal.returns-clause-sup
returns-clause-sup c = sup_after

use Rattle.dwz_def_output.proofs.PlainBackLemmas.{abbrev_read, aranges_read, common_only, common_short, info_read, sources_read, sup_read}
use Rattle.dwz_def_output.proofs.plain_back.supplementary_laws.Goals as goal

pub returns-clause-only : goal.returns-clause-only
returns-clause-only c = common_only

pub returns-clause-info : goal.returns-clause-info
returns-clause-info c = info_read

pub returns-clause-abbrevs : goal.returns-clause-abbrevs
returns-clause-abbrevs c = abbrev_read

pub returns-clause-sources : goal.returns-clause-sources
returns-clause-sources c = sources_read

pub returns-clause-ranges : goal.returns-clause-ranges
returns-clause-ranges c = aranges_read

pub returns-clause-sup : goal.returns-clause-sup
returns-clause-sup c = sup_read

pub returns-clause-short : goal.returns-clause-short
returns-clause-short c = common_short

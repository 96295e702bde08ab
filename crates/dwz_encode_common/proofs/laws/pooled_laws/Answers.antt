use Rattle.dwz_encode_common.proofs.OwnTexts.{name_not_pooled, not_pooled}
use Rattle.dwz_encode_common.proofs.PooledTexts.{pooled_law}
use Rattle.dwz_encode_common.proofs.laws.pooled_laws.Goals as goal

pub returns-clause-common : goal.returns-clause-common
returns-clause-common c = pooled_law

pub returns-clause-entries : goal.returns-clause-entries
returns-clause-entries c = not_pooled

pub returns-clause-names : goal.returns-clause-names
returns-clause-names c = name_not_pooled

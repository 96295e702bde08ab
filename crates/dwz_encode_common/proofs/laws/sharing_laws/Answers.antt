use Rattle.dwz_encode_common.proofs.CommonUnits.{know_common}
use Rattle.dwz_encode_common.proofs.SharedEntries.{names_shared, texts_shared}
use Rattle.dwz_encode_common.proofs.laws.sharing_laws.Goals as goal

pub returns-clause-common : goal.returns-clause-common
returns-clause-common c = know_common

pub returns-clause-texts : goal.returns-clause-texts
returns-clause-texts c = texts_shared

pub returns-clause-names : goal.returns-clause-names
returns-clause-names c = names_shared

use Rattle.dwz_encode_common.proofs.SharedTexts.{in_common_law, placed_law, shared_law}
use Rattle.dwz_encode_common.proofs.laws.shared_laws.Goals as goal

pub returns-clause-common : goal.returns-clause-common
returns-clause-common c = in_common_law

pub returns-clause-shared : goal.returns-clause-shared
returns-clause-shared c = shared_law

pub returns-clause-placed : goal.returns-clause-placed
returns-clause-placed c = placed_law

use Rattle.dwz_encode_common.proofs.FileNumbers.{number_law}
use Rattle.dwz_encode_common.proofs.laws.number_laws.Goals as goal

pub returns : goal.returns
returns c = number_law

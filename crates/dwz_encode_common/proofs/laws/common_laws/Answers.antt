use Rattle.dwz_encode_common.proofs.CommonPaths.{common_paths}
use Rattle.dwz_encode_common.proofs.CommonTexts.{common_texts}
use Rattle.dwz_encode_common.proofs.laws.common_laws.Goals as goal

pub returns-clause-texts : goal.returns-clause-texts
returns-clause-texts c = common_texts

pub returns-clause-paths : goal.returns-clause-paths
returns-clause-paths c = common_paths

use Rattle.dwz_expand.proofs.FaultMaps.{fault_law}
use Rattle.dwz_expand.proofs.FileNumbers.{numbers_law}
use Rattle.dwz_expand.proofs.laws.fault_laws.Goals as goal

pub returns-clause-faults : goal.returns-clause-faults
returns-clause-faults c = λ f place same choice stands file w h files r. fault_law f place same choice stands file w h files r

pub returns-clause-files : goal.returns-clause-files
returns-clause-files c = λ place w s files apart. numbers_law place w s files apart

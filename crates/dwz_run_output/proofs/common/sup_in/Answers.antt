use Rattle.std.proofs.Common.{subst}
use Rattle.dwz_run_output.specs.Common.{IsCommonMade}
use Rattle.dwz_run_output.proofs.Imports.{no_imports}
use Rattle.dwz_run_output.proofs.common.sup_in.Goals as goal

pub returns-in-None : goal.returns-in-None
returns-in-None c o r made file = no_imports r file (subst (IsCommonMade o r) c.in-None.is made)

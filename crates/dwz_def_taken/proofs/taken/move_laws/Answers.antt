use Rattle.dwz_def_taken.proofs.CopyAfter.{same_over}
use Rattle.dwz_def_taken.proofs.ServeOver.{over_serves}
use Rattle.dwz_def_taken.proofs.StandingUnits.{standing}
use Rattle.dwz_def_taken.proofs.taken.move_laws.Goals as goal

pub returns-clause-standing : goal.returns-clause-standing
returns-clause-standing c = standing

pub returns-clause-serves : goal.returns-clause-serves
returns-clause-serves c r fixed files re fx known = over_serves r fixed files re fx known

pub returns-clause-same : goal.returns-clause-same
returns-clause-same c r fixed files outs re fx known after = same_over r fixed files outs re fx known after

use Rattle.dwz_run.proofs.ComparedAgain.{compares_again}
use Rattle.dwz_run.proofs.SecondAlone.{compares_alone}
use Rattle.dwz_run.proofs.SecondReused.{compares_over}
use Rattle.dwz_run.proofs.laws.second_call_laws.Goals as goal

pub returns-clause-again : goal.returns-clause-again
returns-clause-again c = compares_again

pub returns-clause-over : goal.returns-clause-over
returns-clause-over c = compares_over

pub returns-clause-alone : goal.returns-clause-alone
returns-clause-alone c = compares_alone

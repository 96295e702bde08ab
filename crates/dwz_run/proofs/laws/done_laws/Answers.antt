use Rattle.dwz_run.proofs.AllDone.{all_apart, all_done, all_partly, all_silent}
use Rattle.dwz_run.proofs.ReusedAlone.{reuse_alone}
use Rattle.dwz_run.proofs.SameWorkers.{same_yields}
use Rattle.dwz_run.proofs.laws.done_laws.Goals as goal

pub returns-clause-done : goal.returns-clause-done
returns-clause-done c words old new shown shown_new e store told = all_done words old new shown shown_new store told e

pub returns-clause-partly : goal.returns-clause-partly
returns-clause-partly c words old new shown shown_new e store told = all_partly words old new shown shown_new store told e

pub returns-clause-alone : goal.returns-clause-alone
returns-clause-alone c = reuse_alone

pub returns-clause-apart : goal.returns-clause-apart
returns-clause-apart c words old new shown shown_new e store told = all_apart words old new shown shown_new store told e

pub returns-clause-silent : goal.returns-clause-silent
returns-clause-silent c words old new shown shown_new e store told = all_silent words old new shown shown_new store told e

pub returns-clause-workers : goal.returns-clause-workers
returns-clause-workers c o n contents outcome given = same_yields o n contents outcome given

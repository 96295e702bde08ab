use Rattle.dwz_run.proofs.Stopped.{all_stopped, read_on}
use Rattle.dwz_run.proofs.laws.stop_laws.Goals as goal

pub returns-clause-stopped : goal.returns-clause-stopped
returns-clause-stopped c words old new shown shown_new e store told = all_stopped words old new shown shown_new store told e

pub returns-clause-prefixes : goal.returns-clause-prefixes
returns-clause-prefixes c words store a out count = read_on words store a out count

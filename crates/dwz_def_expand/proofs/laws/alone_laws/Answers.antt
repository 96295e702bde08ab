use Rattle.dwz_def_expand.proofs.AloneLemmas.{reads_alone}
use Rattle.dwz_def_expand.proofs.ChosenLemmas.{chosen_alone}
use Rattle.dwz_def_expand.proofs.laws.alone_laws.Goals as goal

pub returns-clause-alone : goal.returns-clause-alone
returns-clause-alone _ c = reads_alone

pub returns-clause-chosen : goal.returns-clause-chosen
returns-clause-chosen _ c = chosen_alone

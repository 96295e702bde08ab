use Rattle.dwz_def_expand.proofs.CopiedLemmas.{copied_or_refused}
use Rattle.dwz_def_expand.proofs.StoredLemmas.{attr_stored}
use Rattle.dwz_def_expand.proofs.FileLemmas.{file_whole}
use Rattle.dwz_def_expand.proofs.RefusalLemmas.{all_copied, one_refusal}
use Rattle.dwz_def_expand.proofs.laws.refusal_laws.Goals as goal

pub returns-clause-one : goal.returns-clause-one
returns-clause-one c = one_refusal

pub returns-clause-file : goal.returns-clause-file
returns-clause-file c f reads free = (all_copied f free, file_whole f reads free)

pub returns-clause-stored : goal.returns-clause-stored
returns-clause-stored c f reads number u e there is index = attr_stored f reads number u e there is index

pub returns-clause-copied : goal.returns-clause-copied
returns-clause-copied c = copied_or_refused

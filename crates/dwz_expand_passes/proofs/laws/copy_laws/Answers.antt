use Rattle.dwz_expand_passes.proofs.CopiedLemmas.{copies_law}
use Rattle.dwz_expand_passes.proofs.NumberLemmas.{numbers_law}
use Rattle.dwz_expand_passes.proofs.laws.copy_laws.Goals as goal

pub returns-clause-numbers : goal.returns-clause-numbers
returns-clause-numbers c = numbers_law

pub returns-clause-copies : goal.returns-clause-copies
returns-clause-copies c = copies_law

use Rattle.dwz_law_expand.proofs.MadeLemmas.{made_alone, made_without, reads_without_sup, zeros_without}
use Rattle.dwz_law_expand.proofs.laws.made_laws.Goals as goal

pub returns-clause-alone : goal.returns-clause-alone
returns-clause-alone c = made_alone

pub returns-clause-without : goal.returns-clause-without
returns-clause-without c = made_without

pub returns-clause-zeros : goal.returns-clause-zeros
returns-clause-zeros c = zeros_without

pub returns-clause-reads : goal.returns-clause-reads
returns-clause-reads c = reads_without_sup

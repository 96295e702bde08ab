use Rattle.dwz_law_cross.proofs.PairLemmas.{pairs, same_meaning}
use Rattle.dwz_law_cross.proofs.pairs.pair_laws.Goals as goal

pub returns-clause-pairs : goal.returns-clause-pairs
returns-clause-pairs c = pairs

pub returns-clause-same : goal.returns-clause-same
returns-clause-same c = same_meaning

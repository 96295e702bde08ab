use Rattle.dwz_def_explain.proofs.ChainLemmas.{chain_alike, least_depth, one_chain}
use Rattle.dwz_def_explain.proofs.laws.chain_laws.Goals as goal

pub returns-clause-depth : goal.returns-clause-depth
returns-clause-depth c = least_depth

pub returns-clause-alike : goal.returns-clause-alike
returns-clause-alike c = chain_alike

pub returns-clause-one : goal.returns-clause-one
returns-clause-one c = one_chain

use Rattle.dwz_law_explain.proofs.WayTops.{chain_ends, explained, least_chain, tops_alike}
use Rattle.dwz_law_explain.proofs.laws.way_laws.Goals as goal

pub returns-clause-alike : goal.returns-clause-alike
returns-clause-alike c = tops_alike

pub returns-clause-chain : goal.returns-clause-chain
returns-clause-chain c = least_chain

pub returns-clause-ends : goal.returns-clause-ends
returns-clause-ends c = chain_ends

pub returns-clause-differ : goal.returns-clause-differ
returns-clause-differ c = explained

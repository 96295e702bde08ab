use Rattle.dwz_def_expand.proofs.ChildrenLemmas.{children_after, sources_back}
use Rattle.dwz_def_expand.proofs.ChosenLemmas.{expanded_kinds}
use Rattle.dwz_def_expand.proofs.WholeLemmas.{names_apart, names_closed}
use Rattle.dwz_def_expand.proofs.laws.expand_laws.Goals as goal

pub returns-clause-source : goal.returns-clause-source
returns-clause-source _ c = sources_back

pub returns-clause-children : goal.returns-clause-children
returns-clause-children _ _ same units u test apart kind e = children_after same test units apart u kind e

pub returns-clause-whole : goal.returns-clause-whole
returns-clause-whole _ _ same c w test apart all =
    record { apart = names_apart same test w apart; kinds = expanded_kinds same w; closed = names_closed same test w apart c all }

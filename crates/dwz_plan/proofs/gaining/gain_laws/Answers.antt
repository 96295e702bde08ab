use Rattle.dwz_plan.proofs.ApartLemmas.{groups_apart}
use Rattle.dwz_plan.proofs.FilterLemmas.{partials_filter}
use Rattle.dwz_plan.proofs.MarkedLemmas.{marked}
use Rattle.dwz_plan.proofs.gaining.gain_laws.Goals as goal

pub returns-clause-marked : goal.returns-clause-marked
returns-clause-marked c units alike groups of_tops weights targets marks are shown spread g part e = marked alike units groups of_tops weights targets are shown marks spread g part e

pub returns-clause-groups : goal.returns-clause-groups
returns-clause-groups c units alike files rises = groups_apart alike units files rises

pub returns-clause-parts : goal.returns-clause-parts
returns-clause-parts c units alike files = partials_filter alike units files

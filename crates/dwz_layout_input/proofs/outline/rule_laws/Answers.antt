use Rattle.dwz_layout_input.proofs.PlanFits.{alike_is, choice_is}
use Rattle.dwz_layout_input.proofs.outline.rule_laws.Goals as goal

pub returns-clause-alike : goal.returns-clause-alike
returns-clause-alike c = alike_is

pub returns-clause-choice : goal.returns-clause-choice
returns-clause-choice c = choice_is

use Rattle.dwz_def_plan.proofs.FairLemmas.{fair_by}
use Rattle.dwz_def_plan.proofs.GainLemmas.{gain_choice, gains_decided}
use Rattle.dwz_def_plan.proofs.LawLemmas.{all_chosen}
use Rattle.dwz_def_plan.proofs.OnePlan.{is_gain_rule, one_plan}
use Rattle.dwz_def_plan.proofs.plan.choice_laws.Goals as goal

pub returns-clause-all : goal.returns-clause-all
returns-clause-all c = all_chosen

pub returns-clause-gain : goal.returns-clause-gain
returns-clause-gain c = gain_choice

pub returns-clause-decided : goal.returns-clause-decided
returns-clause-decided c units alike t is = gains_decided alike units t is

pub returns-clause-rule : goal.returns-clause-rule
returns-clause-rule c = is_gain_rule

pub returns-clause-one : goal.returns-clause-one
returns-clause-one c = one_plan

pub returns-clause-fair : goal.returns-clause-fair
returns-clause-fair c = fair_by

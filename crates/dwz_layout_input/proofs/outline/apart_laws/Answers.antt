use Rattle.dwz_def_tops.specs.Spots.{file_numbers, units_of}
use Rattle.dwz_plan.specs.declared.plan.Scope.TheVariants.{Each}
use Rattle.dwz_def_images.specs.Units.{common_units}
use Rattle.dwz_plan.specs.MoveOf.{move_of}
use Rattle.dwz_layout_input.specs.Rules.{rule_by}
use Rattle.dwz_layout_input.proofs.PartHomes.{no_home, no_units, none_home}
use Rattle.dwz_layout_input.proofs.PlanFits.{alike_is}
use Rattle.dwz_layout_input.proofs.outline.apart_laws.Goals as goal

pub returns-clause-homes : goal.returns-clause-homes
returns-clause-homes c docs part there = no_home (units_of docs) (rule_by Each docs) (alike_is Each docs) (file_numbers 0 docs) part there

pub returns-clause-any : goal.returns-clause-any
returns-clause-any c docs = none_home (units_of docs) (rule_by Each docs) (alike_is Each docs) (file_numbers 0 docs)

pub returns-clause-units : goal.returns-clause-units
unfolding common_units
returns-clause-units c docs = (let m = move_of (rule_by Each docs) docs in no_units m 0 m.parts (no_home (units_of docs) (rule_by Each docs) (alike_is Each docs) (file_numbers 0 docs)))

use Rattle.dwz_def_plan.proofs.HomeLemmas.{are_users, home_is, is_rep}
use Rattle.dwz_def_plan.proofs.KeptLemmas.{are_imports}
use Rattle.dwz_def_plan.proofs.KeptOrder.{kept_order}
use Rattle.dwz_def_plan.proofs.KeptTops.{kept_tops}
use Rattle.dwz_def_plan.proofs.LawLemmas.{moves_along, share_all}
use Rattle.dwz_def_plan.proofs.PlanLemmas.{is_plan}
use Rattle.dwz_def_plan.proofs.RowParts.{kept_is}
use Rattle.dwz_def_plan.proofs.PartRows.{part_is}
use Rattle.dwz_def_plan.proofs.PartOrder.{part_order}
use Rattle.dwz_def_plan.specs.Plan.{pinned_of}
use Rattle.dwz_def_tops.specs.Spots.{rows_of_root}
use Rattle.dwz_def_plan.proofs.plan.plan_laws.Goals as goal

pub returns-clause-users : goal.returns-clause-users
returns-clause-users c = are_users

pub returns-clause-rep : goal.returns-clause-rep
returns-clause-rep c = is_rep

pub returns-clause-home : goal.returns-clause-home
returns-clause-home c units alike = home_is alike units

pub returns-clause-alike : goal.returns-clause-alike
returns-clause-alike c = share_all

pub returns-clause-targets : goal.returns-clause-targets
returns-clause-targets c = moves_along

pub returns-clause-plan : goal.returns-clause-plan
returns-clause-plan c = is_plan

pub returns-clause-kept : goal.returns-clause-kept
returns-clause-kept c = kept_tops

pub returns-clause-rows : goal.returns-clause-rows
returns-clause-rows c = kept_is

pub returns-clause-row_order : goal.returns-clause-row_order
returns-clause-row_order c gone units unit = kept_order (pinned_of units) gone (rows_of_root units unit)

pub returns-clause-parts : goal.returns-clause-parts
returns-clause-parts c = part_is

pub returns-clause-part_order : goal.returns-clause-part_order
returns-clause-part_order c = part_order

pub returns-clause-imports : goal.returns-clause-imports
returns-clause-imports c = are_imports

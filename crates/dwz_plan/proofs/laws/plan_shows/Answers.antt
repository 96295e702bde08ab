use Rattle.dwz_plan.proofs.BridgeLemmas.{file_numbers_are}
use Rattle.dwz_plan.proofs.GainedLemmas.{plan_gained}
use Rattle.dwz_plan.proofs.OnePlan.{one_plan, whole_plan}
use Rattle.dwz_plan.proofs.RowLemmas.{length-rows_from}
use Rattle.dwz_plan.proofs.ShownMoves.{plan_moves}
use Rattle.dwz_plan.proofs.laws.plan_shows.Goals as goal

pub returns-clause-plan : goal.returns-clause-plan
returns-clause-plan c units alike scope tops least plan shows decides is = plan_gained units alike scope tops least shows decides is.0 is.1 plan is.2

pub returns-clause-one : goal.returns-clause-one
returns-clause-one c g plan other is is' = one_plan g plan other is is'

pub returns-clause-whole : goal.returns-clause-whole
returns-clause-whole c g plan is = whole_plan g plan is

pub returns-clause-rows : goal.returns-clause-rows
returns-clause-rows c scope tops least len = length-rows_from tops.files_of_units 0 tops.rows least len

pub returns-clause-files : goal.returns-clause-files
returns-clause-files c docs = file_numbers_are 0 docs

pub returns-clause-moves : goal.returns-clause-moves
returns-clause-moves c rule units files planned shows = plan_moves rule units files planned shows

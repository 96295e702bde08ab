use Rattle.dwz_def_tops.specs.Spots.{units_of}
use Rattle.dwz_def_images.proofs.StandLemmas.{fair}
use Rattle.dwz_layout_numbers.proofs.PlanMoves.{plan_holds, plan_order, plan_stands, plan_still}
use Rattle.dwz_layout_numbers.proofs.laws.plan_laws.Goals as goal

pub returns-clause-stand : goal.returns-clause-stand
returns-clause-stand c = plan_stands

pub returns-clause-holds : goal.returns-clause-holds
returns-clause-holds c = plan_holds

pub returns-clause-order : goal.returns-clause-order
returns-clause-order c = plan_order

pub returns-clause-still : goal.returns-clause-still
returns-clause-still c = λ scope docs rule alike choice. plan_still docs rule (fair scope (units_of docs) rule alike choice)

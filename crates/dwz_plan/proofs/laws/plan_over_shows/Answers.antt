use Rattle.std.proofs.Common.{sym, subst, ap, ◌∙◌}
use Rattle.dwz_plan.specs.Over.{planned_over}
use Rattle.dwz_plan.specs.OverLaws.{IsWholeOver}
use Rattle.dwz_plan.specs.Planned.{Planned}
use Rattle.dwz_plan.proofs.OnePlan.{one_plan}
use Rattle.dwz_plan.proofs.ShownOver.{shows_over, whole_over}
use Rattle.dwz_plan.proofs.laws.plan_over_shows.Goals as goal

pub returns-clause-moves : goal.returns-clause-moves
returns-clause-moves c r fixed tops least plan re fx sh is = shows_over r fixed tops least re fx sh is.0 is.1 plan is.2

pub returns-clause-one : goal.returns-clause-one
returns-clause-one c tops least fixed plan other a b = a.2 ∙ (ap (planned_over tops least fixed) (one_plan _ a.0 b.0 a.1 b.1) ∙ sym b.2)

pub returns-clause-whole : goal.returns-clause-whole
returns-clause-whole c tops least fixed plan is = subst (λ (p : Planned). IsWholeOver tops p) (sym is.2) (whole_over tops least fixed is.0)

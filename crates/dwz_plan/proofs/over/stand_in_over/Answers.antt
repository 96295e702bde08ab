use Rattle.std.proofs.Common.{◌∙◌, ℕ, List, Option, None, get_or, ap, sym}
use Rattle.std.specs.Prelude.{unwrap_or}
use Rattle.dwz_plan.specs.Over.{stand_over}
use Rattle.dwz_plan.proofs.over.stand_in_over.Goals as goal

pub returns-in-Some : goal.returns-in-Some
unfolding stand_over
returns-in-Some c = sym (ap (λ (o : Option ℕ). unwrap_or o (get_or c.args.stand_ins.now c.args.top c.args.top)) (ap (λ (xs : List (Option ℕ)). get_or xs c.args.top None) (sym c.as_slice.ensures) ∙ c.in-Some.is))

pub returns-in-None : goal.returns-in-None
unfolding stand_over
returns-in-None c =
    c.stand_in_at.ensures
    ∙ sym (ap (λ (o : Option ℕ). unwrap_or o (get_or c.args.stand_ins.now c.args.top c.args.top)) (ap (λ (xs : List (Option ℕ)). get_or xs c.args.top None) (sym c.as_slice.ensures) ∙ c.in-None.is))

use Rattle.std.proofs.Common.{◌≡◌, ◌∙◌, ◌-◌, ℕ, List, Option, None, get_or, ap, sym}
use Rattle.dwz_groups.specs.declared.tops.TopRow.{TopRow}
use Rattle.dwz_plan.specs.declared.plan.Home.TheVariants.{Common}
use Rattle.dwz_plan.specs.Over.{place_behind, place_by, place_over, unit_at}
use Rattle.dwz_plan.proofs.over.home_over.Goals as goal

pub returns-in-Some : goal.returns-in-Some
unfolding place_over
returns-in-Some c =
    let image = ap (λ (xs : List (Option ℕ)). get_or xs c.args.top None) (sym c.as_slice.ensures) ∙ c.in-Some.is in
    let unit : c.unit_of.result ≡ unit_at c.args.tops.now.rows c.in-Some.image = c.unit_of.ensures ∙ ap (λ (rs : List TopRow). unit_at rs c.in-Some.image) c.as_slice-in-Some.ensures in
    (λ i. Common (unit i - c.own_units-first.ensures i)) ∙ sym (ap (λ (o : Option ℕ). place_by c.args.tops.now c.args.fixed.now c.args.homes.now o c.args.top) image)

pub returns-in-None : goal.returns-in-None
unfolding place_over
returns-in-None c =
    let image = ap (λ (xs : List (Option ℕ)). get_or xs c.args.top None) (sym c.as_slice.ensures) ∙ c.in-None.is in
    c.behind.ensures
    ∙ ((λ i. place_behind (c.len.ensures i) (c.home_at.ensures i)) ∙ sym (ap (λ (o : Option ℕ). place_by c.args.tops.now c.args.fixed.now c.args.homes.now o c.args.top) image))

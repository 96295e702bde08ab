use Rattle.std.proofs.Common.{◌≡◌, ◌+◌, ◌∙◌, ℕ, List, ap}
use Rattle.std.specs.Prelude.{slice_index_or}
use Rattle.dwz_layout_numbers.specs.Owners.{owner_by}
use Rattle.dwz_layout_numbers.proofs.OwnerSteps.{got_or}
use Rattle.dwz_layout_numbers.proofs.owners.owned_of.Goals as goal

pub returns-clause-number : goal.returns-clause-number
returns-clause-number c = λ kept old. (
    let plan = c.args.plan.now in
    let at = c.args.first + c.args.unit in
    let olds = c.args.numbers.now.olds.items in
    let same : c.at_or-kept.result ≡ kept = c.at_or-kept.ensures ∙ ap (λ (w : List ℕ). slice_index_or w at 0) c.as_slice.ensures.value ∙ got_or olds at kept 0 old in
    c.number_of-number.ensures ∙ ap (λ (w : List ℕ). owner_by plan w c.at_or-kept.result c.args.top) c.as_slice-2.ensures.value
    ∙ ap (λ (n : ℕ). owner_by plan c.args.numbers.now.parts.items n c.args.top) same)

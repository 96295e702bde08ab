use Rattle.std.proofs.Common.{◌≡◌, ◌∙◌}
use Rattle.dwz_groups.specs.Groups.{grouped}
use Rattle.dwz_plan.specs.Steps.{numbered}
use Rattle.dwz_layout_items.specs.Grouping.{one_lists}
use Rattle.dwz_layout_items.proofs.GroupLemmas.{grouped_chains}
use Rattle.dwz_layout_items.proofs.chains.chains_of.Goals as goal

pub returns : goal.returns
returns c =
    let is = c.in_ok-lists.ensures in
    let pairs : c.as_slice.result.now ≡ numbered (one_lists c.args.of_tops.now) c.args.tops.now = c.as_slice.ensures.value ∙ is.pairs_are in
    c.in_ok-chains.ensures ∙ (λ i. grouped (is.many i) (pairs i)) ∙ grouped_chains c.args.of_tops.now c.args.tops.now c.requires.inside

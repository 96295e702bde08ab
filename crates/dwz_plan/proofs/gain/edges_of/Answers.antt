use Rattle.std.proofs.Common.{◌≡◌, ℕ, suc, ◌+◌, ◌++◌, List, Option, None, get_or, take, ap, ◌∙◌, arith}
use Rattle.std.proofs.lemmas.List.{take_all}
use Rattle.dwz_plan.specs.Gaining.{edges_from, edges_to}
use Rattle.dwz_plan.proofs.GainLemmas.{edges_next, edges_short}
use Rattle.dwz_plan.proofs.gain.edges_of.Goals as goal

pub loop-top-init : goal.loop-top-init
unfolding edges_from
loop-top-init c = c.new-edges.ensures.items

pub loop-top-preserved : goal.loop-top-preserved
loop-top-preserved c =
    let i = c.loop-top.top in
    let groups : List (Option ℕ) = c.args.groups.now in
    let targets : List (List ℕ) = c.args.targets.now in
    let one : suc i ≡ i + 1 = omega arith in
    let many = c.requires in
    c.in_ok-push_edges.ensures ∙ (λ j. c.loop-top.invariant j ++ edges_to groups (get_or groups i None) (c.get.ensures j))
    ∙ edges_next groups groups targets i (omega arith) (omega arith) ∙ ap (λ k. edges_from groups (take k groups) (take k targets)) one

pub returns : goal.returns
returns c =
    let i = c.loop-top.top in
    let groups : List (Option ℕ) = c.args.groups.now in
    c.loop-top.invariant ∙ ap (λ (fs : List (Option ℕ)). edges_from groups fs (take i c.args.targets.now)) (take_all i groups (omega arith)) ∙ edges_short groups groups c.args.targets.now i (omega arith)

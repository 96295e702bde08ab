use Rattle.std.proofs.Common.{◌≡◌, ℕ, suc, ◌+◌, ◌++◌, List, get_or, take, sym, ap, ◌∙◌, arith}
use Rattle.std.proofs.lemmas.List.{append-nil, append_assoc}
use Rattle.dwz_groups.specs.declared.groups.Edge.{Edge}
use Rattle.dwz_plan.specs.Gaining.{edge_to, edges_at, group_at}
use Rattle.dwz_plan.proofs.GainLemmas.{edges_at_next}
use Rattle.dwz_plan.proofs.gain.push_edges.Goals as goal

pub loop-target-init : goal.loop-target-init
unfolding edges_at
loop-target-init c = sym (append-nil c.args.edges.now.items)

pub loop-target-preserved : goal.loop-target-preserved
loop-target-preserved c =
    let i = c.loop-target.target-index in
    let ts : List ℕ = c.args.targets.now in
    let from = c.in-Some.from in
    let one : suc i ≡ i + 1 = omega arith in
    let old : List Edge = c.args.edges.now.items in
    let last = edge_to from (group_at c.args.groups.now (get_or ts i 0)) in
    c.in_ok-push_edge.ensures ∙ (λ j. c.loop-target.invariant j ++ edge_to from (c.group_at.ensures j)) ∙ append_assoc old (edges_at c.args.groups.now from (take i ts)) last
    ∙ ap (λ (ps : List Edge). old ++ ps) (edges_at_next c.args.groups.now from ts i (omega arith) ∙ ap (λ k. edges_at c.args.groups.now from (take k ts)) one)

use Rattle.std.proofs.Common.{ℕ, ◌<◌, List, ◌++◌, length, map, take, ap, ◌∙◌, arith}
use Rattle.dwz_groups.specs.declared.groups.Edge.{Edge}
use Rattle.dwz_takes.specs.Steps.{edges_from}
use Rattle.dwz_takes.proofs.EdgeFacts.{edges_next}
use Rattle.dwz_match.specs.Parts.{edge_to}
use Rattle.dwz_layout_input.proofs.behind.edges_of.Goals as goal

pub loop-top-preserved : goal.loop-top-preserved
loop-top-preserved c =
    let n : ℕ = c.loop-top.top in
    let l : n < length c.args.targets.now = omega (arith, c.loop-top-test.true, c.len-top-end.ensures) in
    c.in_ok-put_edges.ensures ∙ ap (λ (w : List Edge). w ++ map (edge_to n) c.get.result.now) c.loop-top.invariant
    ∙ ap (λ (w : List ℕ). edges_from edge_to 0 (take n c.args.targets.now) ++ map (edge_to n) w) c.get.ensures ∙ edges_next edge_to n c.args.targets.now l

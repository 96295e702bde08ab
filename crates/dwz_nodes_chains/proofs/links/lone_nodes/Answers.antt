use Rattle.std.proofs.Common.{◌≡◌, ℕ, List, get_or, replicate, sym, subst, ◌∙◌, arith}
use Rattle.std.proofs.lemmas.List.{get_or-replicate}
use Rattle.dwz_nodes_chains.proofs.LinkLemmas.{alone, peaks_all}
use Rattle.dwz_nodes_chains.proofs.links.lone_nodes.Goals as goal

pub returns-clause-links : goal.returns-clause-links
returns-clause-links c =
    let count : ℕ = c.args.count in
    let len = c.in_ok-above.ensures.len in
    let zeros : c.in_ok-heights.heights.items ≡ replicate count 0 = c.in_ok-heights.ensures.items_if_clones_equal (λ y e. e) in
    alone c.in_ok-above.above.items c.in_ok-heights.heights.items (let few = c.ranges.count.fits in omega arith) (let n = c.in_ok-heights.ensures.len in omega arith)
    (λ x l. c.in_ok-above.ensures.each x (omega arith))
    (λ x l. subst (λ (hs : List ℕ). get_or hs x 0 ≡ 0) (sym zeros) (get_or-replicate count x 0 0 (omega arith)))

pub returns-clause-peaks : goal.returns-clause-peaks
returns-clause-peaks c =
    let len = c.in_ok-above.ensures.len in
    peaks_all c.in_ok-above.above.items (λ x l. c.in_ok-above.ensures.each x (omega arith)) ∙ len

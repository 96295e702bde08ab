use Rattle.std.proofs.Common.{◌≡◌, [], ◌∷◌, ◌++◌, List, sym, ap, subst, ◌∙◌, arith}
use Rattle.dwz_nodes_chains.specs.Course.{IsSearch}
use Rattle.dwz_nodes_chains.specs.declared.pairs.NodePair.{NodePair}
use Rattle.dwz_nodes_chains.proofs.SearchLemmas.{begun}
use Rattle.dwz_nodes_chains.proofs.pairs.begin.Goals as goal

pub returns-clause-search : goal.returns-clause-search
returns-clause-search c =
    let first : NodePair = record { first = c.args.a; second = c.args.b; from = 0; by = 0 } in
    let links = c.in_ok-links.ensures in
    let count = c.len.ensures.count in
    let items : c.push.new.self.items ≡ first ∷ [] = c.in_ok-push.ensures.items ∙ ap (λ (ps : List NodePair). ps ++ first ∷ []) c.new-pairs.ensures.items in
    subst (λ (ps : List NodePair). IsSearch c.args.nodes.now ps c.join_peaks.new.links.above.items c.join_peaks.new.links.heights.items 0 0) (sym items)
    (begun c.args.nodes.now c.args.a c.args.b c.in_ok-links.links.above.items c.join_peaks.new.links.above.items c.join_peaks.new.links.heights.items c.requires.first c.requires.second c.requires.same
    (links.len ∙ count) (λ x l. links.each x (omega arith)) (links.peaks ∙ count) c.join_peaks.ensures.above c.join_peaks.ensures.links c.join_peaks.ensures.fewer)

use Rattle.std.proofs.Common.{◌≡◌, ℕ, List, ap, subst, ◌∙◌}
use Rattle.dwz_nodes.specs.Graph.{Node}
use Rattle.dwz_nodes.specs.Looks.{LookEqual}
use Rattle.dwz_nodes_chains.specs.Course.{pair_at}
use Rattle.dwz_nodes_chains.specs.declared.pairs.NodePair.{NodePair}
use Rattle.dwz_nodes.proofs.Looks.{look-same}
use Rattle.dwz_nodes_chains.proofs.SearchLemmas.{all_equal}
use Rattle.dwz_nodes_chains.proofs.search.find_chain.Goals as goal

pub returns-then-a-b-clause-alike : goal.returns-then-a-b-clause-alike
returns-then-a-b-clause-alike c = λ e k. subst (λ (n : ℕ). LookEqual c.args.nodes.now k c.args.a n) c.if-a-b.true (look-same c.args.nodes.now k c.args.a)

pub returns-in-None-clause-alike : goal.returns-in-None-clause-alike
returns-in-None-clause-alike c =
    let g : List Node = c.args.nodes.now in
    let old : List NodePair = c.in_ok-search.search.pairs.items in
    let new : List NodePair = c.look_all.new.search.pairs.items in
    let begun = c.in_ok-search.ensures in
    let all = c.in_ok-look_all.ensures.none c.in-None.is in
    let same : pair_at new 0 ≡ pair_at old 0 = c.in_ok-look_all.ensures.extends.kept 0 begun.search.reached.some in
    let first : (pair_at new 0).first ≡ c.args.a = ap (λ (p : NodePair). p.first) same ∙ begun.first in
    let second : (pair_at new 0).second ≡ c.args.b = ap (λ (p : NodePair). p.second) same ∙ begun.second in
    λ e k. subst (λ (n : ℕ). LookEqual g k n c.args.b) first (subst (λ (n : ℕ). LookEqual g k (pair_at new 0).first n) second
    (all_equal g new c.look_all.new.search.links.above.items c.look_all.new.search.links.heights.items all.0 0 all.1 all.2 k 0 all.2.reached.some))

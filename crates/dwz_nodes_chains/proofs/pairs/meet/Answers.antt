use Rattle.std.proofs.Common.{◌≡◌, ℕ, ◌<◌, ◌+◌, [], ◌∷◌, ◌++◌, List, length, get_or, sym, ap, subst, ◌∙◌}
use Rattle.std.proofs.lemmas.List.{get_or_read}
use Rattle.dwz_nodes.specs.Graph.{Node, targets_at}
use Rattle.dwz_nodes.specs.Looks.{LookEqual}
use Rattle.dwz_nodes_chains.specs.LeastWays.{target_at}
use Rattle.dwz_nodes_chains.specs.Links.{climb}
use Rattle.dwz_nodes_chains.specs.Course.{IsSearch, pair_at}
use Rattle.dwz_nodes_chains.specs.declared.pairs.NodePair.{NodePair}
use Rattle.dwz_nodes_chains.proofs.PairLemmas.{no_pair}
use Rattle.dwz_nodes_chains.proofs.SearchLemmas.{joined_on, passed_by}
use Rattle.dwz_nodes_chains.proofs.pairs.meet.Goals as goal

-- a target that was read from lists is that of the pair
read_is : (g : List Node) (pairs : List NodePair) (at number : ℕ) (p : NodePair) (ts : List ℕ) (of : NodePair → ℕ) → at < length pairs → p ≡ get_or pairs at p → ts ≡ targets_at g (of p)
    → get_or ts number 0 ≡ target_at g (of (pair_at pairs at)) number
read_is g pairs at number p ts of l e is = ap (λ (xs : List ℕ). get_or xs number 0) is ∙ ap (λ (q : NodePair). target_at g (of q) number) (get_or_read pairs at p l e no_pair)

pub returns-then-a-b-clause-more : goal.returns-then-a-b-clause-more
returns-then-a-b-clause-more c =
    let g : List Node = c.args.nodes.now in
    let pairs : List NodePair = c.args.search.now.pairs.items in
    let above : List ℕ = c.args.search.now.links.above.items in
    let at : ℕ = c.args.at in
    let number : ℕ = c.args.number in
    let p : NodePair = c.index-pair.result.now in
    let first = read_is g pairs at number p c.targets.result.now (λ q. q.first) c.requires.at c.index-pair.ensures c.targets.ensures in
    let second = read_is g pairs at number p c.targets-2.result.now (λ q. q.second) c.requires.at c.index-pair.ensures c.targets-2.ensures in
    let x = c.peak_of-a.ensures.up in
    let y = c.peak_of-b.ensures.up in
    λ e. passed_by g c.requires.closed pairs above c.args.search.now.links.heights.items at number c.requires.search c.requires.at c.requires.number c.peak_of-a.result c.peak_of-b.result x.0 y.0
    (ap (λ (n : ℕ). climb above x.0 n) (sym first) ∙ x.1) (ap (λ (n : ℕ). climb above y.0 n) (sym second) ∙ y.1) c.if-a-b.true

pub returns-clause-more : goal.returns-clause-more
returns-clause-more c =
    let g : List Node = c.args.nodes.now in
    let pairs : List NodePair = c.args.search.now.pairs.items in
    let above : List ℕ = c.args.search.now.links.above.items in
    let new_above : List ℕ = c.join_peaks.new.links.above.items in
    let new_heights : List ℕ = c.join_peaks.new.links.heights.items in
    let at : ℕ = c.args.at in
    let number : ℕ = c.args.number in
    let p : NodePair = c.index-pair.result.now in
    let f : ℕ = get_or c.targets.result.now number 0 in
    let s : ℕ = get_or c.targets-2.result.now number 0 in
    let first : f ≡ target_at g (pair_at pairs at).first number =
    read_is g pairs at number p c.targets.result.now (λ q. q.first) c.requires.at c.index-pair.ensures c.targets.ensures in
    let second : s ≡ target_at g (pair_at pairs at).second number =
    read_is g pairs at number p c.targets-2.result.now (λ q. q.second) c.requires.at c.index-pair.ensures c.targets-2.ensures in
    let x = c.peak_of-a.ensures.up in
    let y = c.peak_of-b.ensures.up in
    let read : LookEqual g 1 f s = c.is_same_here.ensures.0 c.if-not-is_same_here.false in
    let here : LookEqual g 1 (target_at g (pair_at pairs at).first number) (target_at g (pair_at pairs at).second number) =
    subst (λ (n : ℕ). LookEqual g 1 n (target_at g (pair_at pairs at).second number)) first (subst (λ (n : ℕ). LookEqual g 1 f n) second read) in
    let items : c.push.new.self.items ≡ pairs ++ record { first = f; second = s; from = at; by = number } ∷ [] = c.in_ok-push.ensures.items in
    let is : c.push.new.self.items ≡ pairs ++ record { first = target_at g (pair_at pairs at).first number; second = target_at g (pair_at pairs at).second number; from = at; by = number } ∷ [] =
    items ∙ (λ i. pairs ++ record { first = first i; second = second i; from = at; by = number } ∷ []) in
    λ e. subst (λ (ps : List NodePair). IsSearch g ps new_above new_heights at (number + 1)) (sym is)
    (joined_on g c.requires.closed pairs above c.args.search.now.links.heights.items at number c.requires.search c.requires.at c.requires.number c.peak_of-a.result c.peak_of-b.result x.0 y.0
    (ap (λ (n : ℕ). climb above x.0 n) (sym first) ∙ x.1) (ap (λ (n : ℕ). climb above y.0 n) (sym second) ∙ y.1) here new_above new_heights c.peak_of-a.ensures.inside c.peak_of-b.ensures.inside
    c.join_peaks.ensures.above c.join_peaks.ensures.links c.join_peaks.ensures.fewer)

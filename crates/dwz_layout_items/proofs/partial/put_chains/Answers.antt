use Rattle.std.proofs.Common.{◌≡◌, ◌∙◌, ◌<◌, ◌+◌, ◌++◌, [], ℕ, List, length, get_or, take, sym, ap, subst, append_assoc, arith, length-take}
use Rattle.std.proofs.lemmas.List.{take_more}
use Rattle.dwz_def_tops.specs.Spots.{EntryName}
use Rattle.dwz_plan.proofs.DistinctLemmas.{get_in}
use Rattle.dwz_layout_items.specs.Chains.{Up, chain_lines, chains_lines, down, inner_at}
use Rattle.dwz_layout_items.specs.Lines.{Line}
use Rattle.dwz_layout_items.specs.Order.{order_lines}
use Rattle.dwz_layout_items.proofs.ChainLemmas.{chains_more, chains_none}
use Rattle.dwz_layout_items.proofs.partial.put_chains.Goals as goal

pub loop-chain-init : goal.loop-chain-init
loop-chain-init c = λ names ups u. chains_none names (λ t. down (ups t)) (order_lines names c.args.order.now.items)

pub loop-chain-preserved : goal.loop-chain-preserved
loop-chain-preserved c = λ names ups u.
    let chains : List (List ℕ) = c.args.chains.now in
    let k : ℕ = c.loop-chain.chain in
    let l : k < length chains = omega arith in
    let g : List ℕ = get_or chains k [] in
    let head : ℕ = get_or g 0 0 in
    let path : ℕ → List ℕ = λ t. down (ups t) in
    let tops : c.get-tops.result.now ≡ g = c.get-tops.ensures in
    let inner : c.inner_of.result ≡ inner_at c.args.of_tops.now head = c.inner_of.ensures ∙ ap (λ (w : List ℕ). inner_at c.args.of_tops.now (get_or w 0 0)) tops in
    let up : Up c.args.rows.now c.inner_of.result (ups head) = subst (λ (r : ℕ). Up c.args.rows.now r (ups head)) (sym inner) (u g (get_in chains k [] l)) in
    let old : List (Line EntryName) = order_lines names c.args.order.now.items in
    let so_far : List (Line EntryName) = chains_lines names path 0 (take k chains) in
    let own : List (Line EntryName) = chain_lines names k (path head) g in
    let many : 0 + length (take k chains) ≡ k = omega (arith, length-take k chains, l) in
    let more : chains_lines names path 0 (take (k + 1) chains) ≡ so_far ++ own =
    ap (chains_lines names path 0) (take_more chains k [] l) ∙ chains_more names path 0 (take k chains) g ∙ (λ i. so_far ++ chain_lines names (many i) (path head) g) in
    c.in_ok-put_chain.ensures names (ups head) up
    ∙ (λ i. c.loop-chain.invariant names ups u i ++ chain_lines names k (path head) (tops i))
    ∙ append_assoc old so_far own
    ∙ ap (λ (w : List (Line EntryName)). old ++ w) (sym more)

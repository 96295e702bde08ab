use Rattle.std.proofs.Common.{ℕ, ◌<◌, List, ap, arith, length, subst, sym, ◌∙◌}
use Rattle.std.proofs.lemmas.Option.{IfSome_then}
use Rattle.dwz_label.specs.Shown.{AreMadeOf}
use Rattle.dwz_label.proofs.MadeLemmas.{made_closed, made_nodes}
use Rattle.dwz_explain.proofs.ChainTops.{alike_tops, leads_apart, shown_few}
use Rattle.dwz_explain.proofs.WayEnds.{way_few, way_inside}
use Rattle.dwz_explain.proofs.verdicts.chain_of.Goals as goal

pub find_chain-requires-clause-closed : goal.find_chain-requires-clause-closed
find_chain-requires-clause-closed c =
    let made = subst (λ (fs : List ℕ). AreMadeOf fs c.args.movable.now c.args.targets.now c.in_ok-nodes.nodes) c.as_slice.ensures.value c.in_ok-nodes.ensures in
    made_closed c.in_ok-firsts.firsts.items c.args.movable.now c.args.targets.now c.in_ok-nodes.nodes (c.requires.targets ∙ sym c.requires.movable ∙ sym c.in_ok-firsts.ensures.len) c.requires.inside made

pub find_chain-requires-clause-first : goal.find_chain-requires-clause-first
find_chain-requires-clause-first c =
    let m = c.in_ok-firsts.ensures.len in
    let s = c.as_slice.ensures.value in
    let n = c.in_ok-nodes.ensures.len in
    subst (λ k. c.args.a < k) (sym (n ∙ ap length s ∙ m)) c.requires.first

pub find_chain-requires-clause-second : goal.find_chain-requires-clause-second
find_chain-requires-clause-second c =
    let m = c.in_ok-firsts.ensures.len in
    let s = c.as_slice.ensures.value in
    let n = c.in_ok-nodes.ensures.len in
    subst (λ k. c.args.b < k) (sym (n ∙ ap length s ∙ m)) c.requires.second

pub returns-clause-alike : goal.returns-clause-alike
returns-clause-alike c = λ units x y shown i j u v p q none. (
    let firsts = c.in_ok-firsts.firsts.items in
    let made = subst (λ (fs : List ℕ). AreMadeOf fs c.args.movable.now c.args.targets.now c.in_ok-nodes.nodes) c.as_slice.ensures.value c.in_ok-nodes.ensures in
    alike_tops units c.args.labels.now c.args.movable.now c.args.targets.now firsts c.in_ok-nodes.nodes shown c.in_ok-firsts.ensures made x y i j c.args.a c.args.b p q u v
    (c.in_ok-found.ensures.alike none))

pub returns-clause-apart : goal.returns-clause-apart
returns-clause-apart c = λ units x y shown i j u v p q. (
    let firsts = c.in_ok-firsts.firsts.items in
    let made = subst (λ (fs : List ℕ). AreMadeOf fs c.args.movable.now c.args.targets.now c.in_ok-nodes.nodes) c.as_slice.ensures.value c.in_ok-nodes.ensures in
    IfSome_then c.in_ok-found.found c.in_ok-found.ensures.apart (λ apart h.
    leads_apart units c.args.labels.now c.args.movable.now c.args.targets.now firsts c.in_ok-nodes.nodes shown c.in_ok-firsts.ensures made x y i j c.args.a c.args.b p q u v
    apart h))

pub returns-clause-inside : goal.returns-clause-inside
returns-clause-inside c =
    let made = subst (λ (fs : List ℕ). AreMadeOf fs c.args.movable.now c.args.targets.now c.in_ok-nodes.nodes) c.as_slice.ensures.value c.in_ok-nodes.ensures in
    let l = c.requires.first in
    let m = c.requires.second in
    let size = made.len ∙ c.in_ok-firsts.ensures.len in
    let movable = c.requires.movable in
    let closed = made_closed c.in_ok-firsts.firsts.items c.args.movable.now c.args.targets.now c.in_ok-nodes.nodes (c.requires.targets ∙ sym movable ∙ sym c.in_ok-firsts.ensures.len) c.requires.inside made in
    IfSome_then c.in_ok-found.found c.in_ok-found.ensures.apart (λ apart h. (
    let w = way_inside c.in_ok-nodes.nodes closed apart.chain.items c.args.a c.args.b (omega (arith, l, size)) (omega (arith, m, size)) h.least in
    let u = w.0 in
    let v = w.1 in
    let e = h.first_is in
    let f = h.second_is in
    (omega (arith, u, e, size, movable), omega (arith, v, f, size, movable))))

pub returns-clause-narrow : goal.returns-clause-narrow
returns-clause-narrow c = λ units shown few_targets. (
    let firsts = c.in_ok-firsts.firsts.items in
    let made = subst (λ (fs : List ℕ). AreMadeOf fs c.args.movable.now c.args.targets.now c.in_ok-nodes.nodes) c.as_slice.ensures.value c.in_ok-nodes.ensures in
    let l = c.requires.first in
    let m = c.requires.second in
    let size = made.len ∙ c.in_ok-firsts.ensures.len in
    let many = c.requires.targets ∙ sym c.requires.movable ∙ sym c.in_ok-firsts.ensures.len in
    let closed = made_closed firsts c.args.movable.now c.args.targets.now c.in_ok-nodes.nodes many c.requires.inside made in
    let shows = made_nodes units c.args.labels.now c.args.movable.now c.args.targets.now firsts c.in_ok-nodes.nodes shown c.in_ok-firsts.ensures made in
    let few = shown_few units c.in_ok-nodes.nodes shows few_targets in
    IfSome_then c.in_ok-found.found c.in_ok-found.ensures.apart (λ apart h.
    way_few c.in_ok-nodes.nodes closed few apart.chain.items c.args.a c.args.b (omega (arith, l, size)) (omega (arith, m, size)) h.least))

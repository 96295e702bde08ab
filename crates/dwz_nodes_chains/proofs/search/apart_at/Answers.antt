use Rattle.std.proofs.Common.{◌≡◌, ℕ, ◌<◌, [], ◌∷◌, ◌++◌, List, length, get_or, reverse, sym, ap, subst, ◌∙◌, arith}
use Rattle.std.proofs.lemmas.List.{reverse-append}
use Rattle.dwz_nodes.specs.Graph.{Node}
use Rattle.dwz_nodes_chains.specs.LeastWays.{target_at}
use Rattle.dwz_nodes_chains.specs.Course.{IsLastPart, pair_at}
use Rattle.dwz_nodes_chains.specs.declared.pairs.NodePair.{NodePair}
use Rattle.dwz_nodes_chains.proofs.WayLemmas.{last_part, part_back}
use Rattle.dwz_nodes_chains.proofs.search.apart_at.Goals as goal

pub back-init : goal.back-init
back-init c =
    let g : List Node = c.args.nodes.now in
    let pairs : List NodePair = c.args.pairs.now in
    let at : ℕ = c.args.at in
    let number : ℕ = c.args.number in
    let f : ℕ = get_or c.targets.result.now number 0 in
    let s : ℕ = get_or c.targets-2.result.now number 0 in
    let first : f ≡ target_at g (pair_at pairs at).first number = ap (λ (ts : List ℕ). get_or ts number 0) c.targets.ensures in
    let second : s ≡ target_at g (pair_at pairs at).second number = ap (λ (ts : List ℕ). get_or ts number 0) c.targets-2.ensures in
    let items : c.push.new.self.items ≡ number ∷ [] = c.in_ok-push.ensures.items ∙ ap (λ (ns : List ℕ). ns ++ number ∷ []) c.new-chain.ensures.items in record {
      inside = c.requires.differ.at_there;
      part = subst (λ (ns : List ℕ). IsLastPart g pairs at (reverse ns) f s) (sym items)
          (subst (λ (n : ℕ). IsLastPart g pairs at (number ∷ []) n s) (sym first)
          (subst (λ (n : ℕ). IsLastPart g pairs at (number ∷ []) (target_at g (pair_at pairs at).first number) n) (sym second)
          (last_part g pairs c.requires.reached at number c.requires.followed c.requires.differ)));
    }

pub back-preserved : goal.back-preserved
back-preserved c =
    let g : List Node = c.args.nodes.now in
    let pairs : List NodePair = c.args.pairs.now in
    let row : ℕ = c.back.row in
    let way : List ℕ = c.back.chain.items in
    let p : NodePair = pair_at pairs row in
    let f : ℕ = get_or c.targets.result.now c.args.number 0 in
    let s : ℕ = get_or c.targets-2.result.now c.args.number 0 in
    let inside : row < length pairs = c.back.invariant.inside in
    let some : 0 < row = c.back-test.true in
    let items : c.push-in-back.new.self.items ≡ way ++ p.by ∷ [] = c.in_ok-push-2.ensures.items in
    let is : reverse c.push-in-back.new.self.items ≡ p.by ∷ reverse way = ap (λ (ns : List ℕ). reverse ns) items ∙ reverse-append way (p.by ∷ []) in record {
      inside = (let from = (c.requires.reached.each row some inside).from in omega arith);
      part = subst (λ (ns : List ℕ). IsLastPart g pairs p.from ns f s) (sym is) (part_back g pairs c.requires.reached row (reverse way) f s some inside c.back.invariant.part);
    }

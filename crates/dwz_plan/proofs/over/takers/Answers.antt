use Rattle.std.proofs.Common.{◌≡◌, ◌<◌, ◌∙◌, ◌++◌, ℕ, List, All, IfOk, [], length, get_or, map, take, ap, sym, subst, arith}
use Rattle.std.specs.Prelude.{nat_eq}
use Rattle.std.specs.List.{dedup}
use Rattle.std.proofs.lemmas.List.{get_or_default}
use Rattle.std.proofs.lemmas.List.Elements.{All-take}
use Rattle.dwz_groups.specs.declared.groups.Edge.{Edge}
use Rattle.dwz_groups.specs.Groups.{grouped}
use Rattle.dwz_plan.specs.Steps.{pair, turned}
use Rattle.dwz_plan.proofs.OverLemmas.{takers_are}
use Rattle.dwz_plan.proofs.TurnedLemmas.{turned-more, turned-none, turned_all}
use Rattle.dwz_plan.proofs.over.takers.Goals as goal

pub loop-unit-init : goal.loop-unit-init
loop-unit-init c = c.new-pairs.ensures.items ∙ sym turned-none

pub loop-unit-preserved : goal.loop-unit-preserved
loop-unit-preserved c =
    let takes : List (List ℕ) = c.args.fixed.now.takes in
    let n = c.loop-unit.unit in
    let l : n < length takes = omega (arith, c.requires.units) in
    let parts : c.as_slice.result.now ≡ get_or takes n [] = c.as_slice.ensures
    ∙ (c.index-takes-unit.is ∙ (ap (λ (ls : List (List ℕ)). get_or ls n c.index-takes-unit.result) c.as_slice-takes.ensures ∙ get_or_default takes n c.index-takes-unit.result [] l)) in
    c.in_ok-push_turned.ensures ∙ ((λ i. c.loop-unit.invariant i ++ map (λ k. pair k n) (parts i)) ∙ sym (turned-more takes n l))

pub group-requires : goal.group-requires
group-requires c =
    let takes : List (List ℕ) = c.args.fixed.now.takes in
    let n = length c.args.fixed.now.roots in
    let P : ℕ → Type 0 = λ p. p < n in
    let pairs : c.as_slice-2.result.now ≡ turned 0 (take c.args.units takes) = c.as_slice-2.ensures.value
    ∙ (c.loop-unit.invariant ∙ (let all : c.loop-unit.unit ≡ c.args.units = omega arith in ap (λ k. turned 0 (take k takes)) all)) in
    subst (λ (k : ℕ). All (λ p. p.key < k) c.as_slice-2.result.now) (sym c.len.ensures)
    (subst (λ (ps : List Edge). All (λ p. P p.key) ps) (sym pairs) (turned_all P 0 (take c.args.units takes) (All-take (λ (ps : List ℕ). All P ps) c.args.units takes c.requires.inside)))

pub returns : goal.returns
returns c =
    let takes : List (List ℕ) = c.args.fixed.now.takes in
    let n = length c.args.fixed.now.roots in
    let by_part : c.in_ok-by_part.by_part ≡ grouped n (turned 0 (take c.args.units takes)) = c.in_ok-by_part.ensures
    ∙ (λ i. grouped (c.len.ensures i) ((c.as_slice-2.ensures.value ∙ (c.loop-unit.invariant ∙ (let all : c.loop-unit.unit ≡ c.args.units = omega arith in ap (λ k. turned 0 (take k takes)) all))) i)) in
    subst (λ (ls : List (List ℕ)). IfOk c.without_repeats.result (λ takers. takers ≡ ls)) (ap (map (dedup nat_eq)) by_part ∙ takers_are n (take c.args.units takes)) c.without_repeats.ensures

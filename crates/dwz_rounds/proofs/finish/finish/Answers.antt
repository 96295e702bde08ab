use Rattle.std.proofs.Common.{◌≡◌, ◌<◌, ℕ, List, [], All, length, ap, sym, subst, arith, refl}
use Rattle.std.specs.Prelude.{slice_index}
use Rattle.std.proofs.lemmas.List.{get_or_default}
use Rattle.dwz_nodes.specs.Looks.{IsLeastBelow}
use Rattle.dwz_rounds.specs.Pending.{IsPending}
use Rattle.dwz_rounds.proofs.Finishing.{led, start-pending}
use Rattle.dwz_rounds.proofs.Numberings.{end-refined}
use Rattle.dwz_rounds.proofs.finish.finish.Goals as goal

pub number_classes-requires-clause-led : goal.number_classes-requires-clause-led
number_classes-requires-clause-led c = led c.args.nodes.now c.requires.closed c.requires.level.0 c.args.classes.now c.args.next.now c.requires.level.1 c.requires.round

pub members_of-requires-clause-numbers : goal.members_of-requires-clause-numbers
members_of-requires-clause-numbers c =
    let m = c.in_ok-named.ensures in
    let numbers : List ℕ = c.in_ok-named.named.numbers.items in
    subst (λ (l : List ℕ). All (λ n. n < c.in_ok-named.named.count) l) (sym c.as_slice.ensures.value)
    (λ k d l. subst (λ (x : ℕ). x < c.in_ok-named.named.count) (get_or_default numbers k 0 d l) (m.below k (let e = m.len in omega arith)))

pub moved_nodes-requires-clause-classes : goal.moved_nodes-requires-clause-classes
moved_nodes-requires-clause-classes c = λ k d l.
    let level = c.requires.level.1 in
    let classes : List ℕ = c.args.classes.now in
    subst (λ (x : ℕ). x < length classes) (get_or_default classes k 0 d l) (let e = level.len in let i = (level.each k (omega arith)).inside in omega arith)

pub pass_all_in-requires-clause-pending : goal.pass_all_in-requires-clause-pending
pass_all_in-requires-clause-pending c =
    start-pending c.args.nodes.now c.requires.closed c.requires.level.0 c.args.classes.now c.args.next.now c.requires.level.1 c.requires.round c.args.largest.now c.in_ok-named.named.numbers.items
    c.in_ok-pending.pending.items c.in_ok-named.named.count c.in_ok-named.ensures c.in_ok-pending.ensures

pub returns : goal.returns
returns c =
    let g = c.args.nodes.now in
    let numbers : List ℕ = c.pass_all_in.new.numbers.items in
    let p : IsPending g numbers [] = c.in_ok-done.ensures.pending c.if-not-done.false in
    let value : c.as_slice-2.result.now ≡ numbers = c.as_slice-2.ensures.value in
    let len = c.in_ok-answers.ensures.len in
    let e = ap (λ (l : List ℕ). length l) value in
    let m = p.len in
    end-refined g c.requires.closed numbers [] p refl c.in_ok-answers.answers.items (omega arith)
    (λ a l. subst (λ (n : ℕ). IsLeastBelow n (λ b. slice_index numbers a ≡ slice_index numbers b) (slice_index c.in_ok-answers.answers.items a)) m
    (subst (λ (x : List ℕ). IsLeastBelow (length x) (λ b. slice_index x a ≡ slice_index x b) (slice_index c.in_ok-answers.answers.items a)) value (c.in_ok-answers.ensures.each a (omega arith))))

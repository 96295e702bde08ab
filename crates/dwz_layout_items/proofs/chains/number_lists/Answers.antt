use Rattle.std.proofs.Common.{◌≡◌, ◌<◌, ◌≤◌, ℕ, List, not, length, take, get_or, subst, sym, arith, length-take}
use Rattle.std.specs.Prelude.{nat_eq}
use Rattle.std.specs.List.{position_or_len}
use Rattle.std.proofs.lemmas.List.{take_more}
use Rattle.std.proofs.lemmas.List.Sums.{prefix_len-le-length}
use Rattle.dwz_layout_items.specs.Chains.{names_at}
use Rattle.dwz_layout_items.specs.Grouping.{IsNumbered}
use Rattle.dwz_layout_items.proofs.GroupLemmas.{Seen, seen_all, seen_few, seen_more, seen_none}
use Rattle.dwz_layout_items.proofs.chains.number_lists.Goals as goal

pub loop-top-init : goal.loop-top-init
loop-top-init c = seen_none c.args.of_tops.now c.new-lists.result.keys c.new-pairs.result.items c.new-lists.ensures.empty c.new-pairs.ensures.items

pub overflow_cast-number : goal.overflow_cast-number
overflow_cast-number c =
    let tops : List ℕ = c.args.tops.now in
    let i = c.loop-top.top-index in
    let n : ℕ = names_at c.args.of_tops.now (get_or tops i 0) in
    let keys : List ℕ = c.loop-top.lists.keys in
    let low : position_or_len (nat_eq n) keys ≤ length keys = prefix_len-le-length (λ k. not (nat_eq n k)) keys in
    let number : c.in_ok-number.number ≡ position_or_len (nat_eq n) keys = c.in_ok-number.ensures.index in
    omega (arith, number, low, seen_few c.args.of_tops.now (take i tops) keys c.loop-top.pairs.items c.loop-top.invariant, length-take i tops, c.requires.few)

pub loop-top-preserved : goal.loop-top-preserved
loop-top-preserved c =
    let tops : List ℕ = c.args.tops.now in
    let i = c.loop-top.top-index in
    let l : i < length tops = omega arith in
    subst (λ (ts : List ℕ). Seen c.args.of_tops.now ts c.insert_full.new.self.keys c.push.new.self.items) (sym (take_more tops i 0 l))
    (seen_more c.args.of_tops.now (take i tops) c.loop-top.lists.keys c.insert_full.new.self.keys c.loop-top.pairs.items c.push.new.self.items (get_or tops i 0) c.in_ok-number.number
    (c.requires.inside i 0 l)
    c.in_ok-number.ensures.keys c.in_ok-number.ensures.index c.in_ok-push.ensures.items c.loop-top.invariant)

pub returns : goal.returns
returns c =
    subst (λ (n : ℕ). IsNumbered c.args.of_tops.now c.args.tops.now n c.loop-top.pairs.items) (sym c.len.ensures.len)
    (seen_all c.args.of_tops.now c.args.tops.now c.loop-top.lists.keys c.loop-top.top-index c.loop-top.pairs.items (omega arith) c.loop-top.invariant)

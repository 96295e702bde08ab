use Rattle.std.proofs.Common.{◌≡◌, ◌∙◌, ◌-◌, get_or, List, ℕ, ap, arith, subst, sym}
use Rattle.std.specs.List.Sorted.{IsStrictlyIncreasing}
use Rattle.std.proofs.lemmas.Result.{IfOk-weaker}
use Rattle.dwz_strs.specs.Pruned.{IsPruned, Pruning, RisesAlong, pruning}
use Rattle.dwz_strs.proofs.PruneSteps.{all_pruned, bounds_at, counted_at, next_at, none_yet, rises_along}
use Rattle.dwz_strs.proofs.pruning.prune_sorted.Goals as goal

pub loop-used-init : goal.loop-used-init
loop-used-init c = rw (c.new-bytes.ensures.items, c.new-numbers.ensures.items) (none_yet c.args.section.now c.deref-used-items.result.now)

pub slice_bounds-extend_from_slice-count : goal.slice_bounds-extend_from_slice-count
slice_bounds-extend_from_slice-count c =
    let b = bounds_at c.args.section.now c.deref-used-items.result.now c.args.uses.items c.loop-used.used-index c.loop-used.end c.loop-used.bytes.items c.loop-used.numbers.items
    c.deref-used-items.ensures.value
    c.requires.rises c.requires.texts c.loop-used.invariant c.loop-used-test.true c.end_behind-next.result c.max.result c.end_behind-next.ensures c.max.ensures in
    omega (arith, b.0)

pub slice_bounds-extend_from_slice-start : goal.slice_bounds-extend_from_slice-start
slice_bounds-extend_from_slice-start c =
    let b = bounds_at c.args.section.now c.deref-used-items.result.now c.args.uses.items c.loop-used.used-index c.loop-used.end c.loop-used.bytes.items c.loop-used.numbers.items
    c.deref-used-items.ensures.value
    c.requires.rises c.requires.texts c.loop-used.invariant c.loop-used-test.true c.end_behind-next.result c.max.result c.end_behind-next.ensures c.max.ensures in
    omega (arith, b.0, b.1)

pub slice_bounds-extend_from_slice-end : goal.slice_bounds-extend_from_slice-end
slice_bounds-extend_from_slice-end c =
    let b = bounds_at c.args.section.now c.deref-used-items.result.now c.args.uses.items c.loop-used.used-index c.loop-used.end c.loop-used.bytes.items c.loop-used.numbers.items
    c.deref-used-items.ensures.value
    c.requires.rises c.requires.texts c.loop-used.invariant c.loop-used-test.true c.end_behind-next.result c.max.result c.end_behind-next.ensures c.max.ensures in
    b.1

pub overflow_sub-next : goal.overflow_sub-next
overflow_sub-next c =
    let b = bounds_at c.args.section.now c.deref-used-items.result.now c.args.uses.items c.loop-used.used-index c.loop-used.end c.loop-used.bytes.items c.loop-used.numbers.items
    c.deref-used-items.ensures.value
    c.requires.rises c.requires.texts c.loop-used.invariant c.loop-used-test.true c.end_behind-next.result c.max.result c.end_behind-next.ensures c.max.ensures in
    b.2

pub overflow_sub-len : goal.overflow_sub-len
overflow_sub-len c =
    let n = counted_at c.args.section.now c.deref-used-items.result.now c.args.uses.items c.loop-used.used-index c.loop-used.end c.loop-used.bytes.items c.loop-used.numbers.items
    c.deref-used-items.ensures.value
    c.requires.rises c.requires.texts c.loop-used.invariant c.loop-used-test.true c.end_behind-next.result c.max.result c.end_behind-next.ensures c.max.ensures
    c.extend_from_slice.new.self.items c.in_ok-extend_from_slice.ensures.items in
    omega (arith, n.0, c.len.ensures, c.extend_from_slice.new.self.ok.0)

pub overflow_cast-len : goal.overflow_cast-len
overflow_cast-len c =
    let n = counted_at c.args.section.now c.deref-used-items.result.now c.args.uses.items c.loop-used.used-index c.loop-used.end c.loop-used.bytes.items c.loop-used.numbers.items
    c.deref-used-items.ensures.value
    c.requires.rises c.requires.texts c.loop-used.invariant c.loop-used-test.true c.end_behind-next.result c.max.result c.end_behind-next.ensures c.max.ensures
    c.extend_from_slice.new.self.items c.in_ok-extend_from_slice.ensures.items in
    omega (arith, n.1, c.len.ensures, c.extend_from_slice.new.self.ok.0, c.type_inv.used-items c.loop-used.used-index)

pub loop-used-preserved : goal.loop-used-preserved
loop-used-preserved c =
    let used = get_or c.deref-used-items.result.now c.loop-used.used-index 0 in
    next_at c.args.section.now c.deref-used-items.result.now c.args.uses.items c.loop-used.used-index c.loop-used.end c.loop-used.bytes.items c.loop-used.numbers.items c.deref-used-items.ensures.value
    c.requires.rises c.requires.texts c.loop-used.invariant c.loop-used-test.true c.end_behind-next.result c.max.result c.end_behind-next.ensures c.max.ensures
    c.extend_from_slice.new.self.items c.in_ok-extend_from_slice.ensures.items (c.len.result - (c.end_behind-next.result - used)) c.push.new.self.items
    (ap (λ (m : ℕ). m - (c.end_behind-next.result - used)) (c.len.ensures ∙ c.extend_from_slice.new.self.ok.0)) c.in_ok-push.ensures.items

pub new-requires : goal.new-requires
new-requires c =
    let uses = c.deref-used-items.result.now in
    let rises : IsStrictlyIncreasing uses = subst IsStrictlyIncreasing (sym c.deref-used-items.ensures.value) c.requires.rises in
    subst (λ (us : List ℕ). RisesAlong us c.loop-used.numbers.items) c.deref-used-items.ensures.value
    (rises_along c.args.section.now uses c.loop-used.used-index c.loop-used.end c.loop-used.bytes.items c.loop-used.numbers.items c.loop-used.invariant rises c.loop-used-test.false
    c.loop-used.auto.used-index-end)

pub returns : goal.returns
returns c =
    let section = c.args.section.now in
    let uses = c.deref-used-items.result.now in
    let rises : IsStrictlyIncreasing uses = subst IsStrictlyIncreasing (sym c.deref-used-items.ensures.value) c.requires.rises in
    let left = pruning c.loop-used.bytes.items c.args.uses.items c.loop-used.numbers.items in
    let is : IsPruned section c.args.uses.items left = subst (λ (us : List ℕ). IsPruned section us (pruning c.loop-used.bytes.items us c.loop-used.numbers.items)) c.deref-used-items.ensures.value
    (all_pruned section uses c.loop-used.used-index c.loop-used.end c.loop-used.bytes.items c.loop-used.numbers.items c.loop-used.invariant rises c.loop-used-test.false
    c.loop-used.auto.used-index-end) in
    IfOk-weaker c.new.result (λ (p : Pruning). p ≡ left) (IsPruned section c.args.uses.items) (λ (p : Pruning) (same : p ≡ left). subst (λ (q : Pruning). IsPruned section c.args.uses.items q) (sym same) is) c.new.ensures

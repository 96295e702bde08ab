use Rattle.std.proofs.Common.{◌+◌, ℕ, List, sym, subst, arith}
use Rattle.dwz_layout_numbers.proofs.CountLemmas.{Starts, left_room, starts_end, starts_first, starts_next}
use Rattle.dwz_layout_numbers.proofs.counted.starts.Goals as goal

pub loop-index-init : goal.loop-index-init
loop-index-init c = subst (λ (w : List ℕ). Starts c.args.indexes.now 0 0 w) (sym c.in_ok-starts.ensures.items) (starts_first c.args.indexes.now)

pub len-start-requires : goal.len-start-requires
len-start-requires c = omega (
  arith,
  left_room c.args.indexes.now c.loop-index.index-index c.loop-index.start c.index-item.result c.loop-index.invariant.left c.loop-index-test.true
      c.index-item.is c.requires,
)

pub overflow_add-start : goal.overflow_add-start
overflow_add-start c = omega (
  arith,
  left_room c.args.indexes.now c.loop-index.index-index c.loop-index.start c.index-item.result c.loop-index.invariant.left c.loop-index-test.true
      c.index-item.is c.requires,
  c.len-start.ensures,
)

pub loop-index-preserved : goal.loop-index-preserved
loop-index-preserved c =
    subst (λ (n : ℕ). Starts c.args.indexes.now (c.loop-index.index-index + 1) (c.loop-index.start + n) c.push.new.self.items) (sym c.len-start.ensures)
    (starts_next c.args.indexes.now c.loop-index.index-index c.loop-index.start c.loop-index.starts.items c.push.new.self.items c.index-item.result c.loop-index.invariant
    c.loop-index-test.true c.index-item.is c.in_ok-push.ensures.items)

pub returns : goal.returns
returns c = starts_end c.args.indexes.now c.loop-index.index-index c.loop-index.start c.loop-index.starts.items c.loop-index.invariant (omega arith)

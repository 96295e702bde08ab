use Rattle.std.proofs.Common.{◌+◌, ℕ, sym, subst, arith}
use Rattle.dwz_layout_numbers.proofs.CountLemmas.{Left, left_end, left_next, left_room}
use Rattle.dwz_layout_numbers.proofs.counted.count_entries.Goals as goal

pub len-count-requires : goal.len-count-requires
len-count-requires c = omega (
  arith,
  left_room c.args.indexes.now c.loop-index.index-index c.loop-index.count c.index-item.result c.loop-index.invariant c.loop-index-test.true c.index-item.is c.requires,
)

pub overflow_add-count : goal.overflow_add-count
overflow_add-count c = omega (
  arith,
  left_room c.args.indexes.now c.loop-index.index-index c.loop-index.count c.index-item.result c.loop-index.invariant c.loop-index-test.true c.index-item.is c.requires,
  c.len-count.ensures,
)

pub loop-index-preserved : goal.loop-index-preserved
loop-index-preserved c =
    subst (λ (n : ℕ). Left c.args.indexes.now (c.loop-index.index-index + 1) (c.loop-index.count + n)) (sym c.len-count.ensures)
    (left_next c.args.indexes.now c.loop-index.index-index c.loop-index.count c.index-item.result c.loop-index.invariant c.loop-index-test.true c.index-item.is)

pub returns : goal.returns
returns c = left_end c.args.indexes.now c.loop-index.index-index c.loop-index.count c.loop-index.invariant (omega arith)

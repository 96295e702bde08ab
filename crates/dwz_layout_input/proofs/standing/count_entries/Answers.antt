use Rattle.std.proofs.Common.{ℕ, ◌+◌, sym, subst, arith}
use Rattle.dwz_layout_numbers.proofs.CountLemmas.{Left, left_first, left_next, left_room}
use Rattle.dwz_layout_input.proofs.FitsOver.{all_counted}
use Rattle.dwz_layout_input.proofs.standing.count_entries.Goals as goal

pub loop-index-init : goal.loop-index-init
loop-index-init c = left_first c.args.indexes.now

pub len-count-requires : goal.len-count-requires
len-count-requires c = omega (
  arith,
  left_room c.args.indexes.now c.loop-index.index-index c.loop-index.count c.index-item.result c.loop-index.invariant c.loop-index-test.true c.index-item.is c.requires,
)

pub overflow_add-count : goal.overflow_add-count
overflow_add-count c = omega (
  arith,
  left_room c.args.indexes.now c.loop-index.index-index c.loop-index.count c.index-item.result c.loop-index.invariant c.loop-index-test.true c.index-item.is c.requires,
  c.len-count.ensures,
)

pub loop-index-preserved : goal.loop-index-preserved
loop-index-preserved c =
    subst (λ (n : ℕ). Left c.args.indexes.now (c.loop-index.index-index + 1) (c.loop-index.count + n)) (sym c.len-count.ensures)
    (left_next c.args.indexes.now c.loop-index.index-index c.loop-index.count c.index-item.result c.loop-index.invariant c.loop-index-test.true c.index-item.is)

pub returns : goal.returns
returns c = all_counted c.args.indexes.now c.loop-index.index-index c.loop-index.count c.loop-index.invariant (omega arith)

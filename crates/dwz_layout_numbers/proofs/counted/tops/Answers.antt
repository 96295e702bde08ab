use Rattle.std.proofs.Common.{All, ◌+◌, ◌++◌, ◌<◌, ℕ, List, ap, sym, subst, ◌∙◌, arith}
use Rattle.dwz_graph.specs.declared.index.TopEntry.{TopEntry}
use Rattle.dwz_graph.specs.EntryCounts.{tops_in}
use Rattle.dwz_layout_numbers.proofs.CountLemmas.{Tops, inside_at, left_room, tops_end, tops_first, tops_fit, tops_next}
use Rattle.dwz_layout_numbers.proofs.counted.tops.Goals as goal

pub loop-index-init : goal.loop-index-init
loop-index-init c = subst (λ (w : List ℕ). Tops c.args.indexes.now 0 0 w) (sym c.in_ok-tops.ensures.items) (tops_first c.args.indexes.now)

pub add_tops-requires : goal.add_tops-requires
add_tops-requires c =
    let x = c.index-item.result in
    let room = left_room c.args.indexes.now c.loop-index.index-index c.loop-index.start x c.loop-index.invariant.left c.loop-index-test.true c.index-item.is c.requires.few in
    subst (λ (w : List TopEntry). All (λ t. c.loop-index.start + t.entry < 4294967296) w) (sym c.tops.ensures)
    (tops_fit c.loop-index.start x room (inside_at c.args.indexes.now c.loop-index.index-index x c.loop-index-test.true c.index-item.is c.requires.inside))

pub len-start-requires : goal.len-start-requires
len-start-requires c = omega (
  arith,
  left_room c.args.indexes.now c.loop-index.index-index c.loop-index.start c.index-item.result c.loop-index.invariant.left c.loop-index-test.true
      c.index-item.is c.requires.few,
)

pub overflow_add-start : goal.overflow_add-start
overflow_add-start c = omega (
  arith,
  left_room c.args.indexes.now c.loop-index.index-index c.loop-index.start c.index-item.result c.loop-index.invariant.left c.loop-index-test.true
      c.index-item.is c.requires.few,
  c.len-start.ensures,
)

pub loop-index-preserved : goal.loop-index-preserved
loop-index-preserved c =
    subst (λ (n : ℕ). Tops c.args.indexes.now (c.loop-index.index-index + 1) (c.loop-index.start + n) c.add_tops.new.tops.items) (sym c.len-start.ensures)
    (tops_next c.args.indexes.now c.loop-index.index-index c.loop-index.start c.loop-index.tops.items c.add_tops.new.tops.items c.index-item.result c.loop-index.invariant
    c.loop-index-test.true c.index-item.is (c.in_ok-add_tops.ensures ∙ ap (λ (w : List TopEntry). c.loop-index.tops.items ++ tops_in c.loop-index.start w) c.tops.ensures))

pub returns : goal.returns
returns c = tops_end c.args.indexes.now c.loop-index.index-index c.loop-index.start c.loop-index.tops.items c.loop-index.invariant (omega arith)

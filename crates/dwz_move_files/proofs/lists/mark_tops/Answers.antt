use Rattle.std.proofs.Common.{arith}
use Rattle.dwz_move_files.proofs.MarkSteps.{first_any, first_uleb, last_any, last_uleb, next_any, next_uleb}
use Rattle.dwz_move_files.proofs.lists.mark_tops.Goals as goal

pub loop-k-init : goal.loop-k-init
loop-k-init c = record {
  any = λ same. first_any c.args.tops.now c.args.named.now.by_any.items;
  uleb = λ same. first_uleb c.args.rows.now c.args.tops.now c.args.named.now.by_uleb.items;
}

pub loop-k-preserved : goal.loop-k-preserved
loop-k-preserved c = record {
  any = λ same. next_any c.args.tops.now c.loop-k.k c.top_at.result (omega arith) c.top_at.ensures c.args.named.now.by_any.items c.loop-k.named.by_any.items c.mark_top.new.named.by_any.items
      (c.loop-k.invariant.any same) c.mark_top.ensures.any;
  uleb = λ same. next_uleb c.args.rows.now c.args.tops.now c.loop-k.k _ c.top_at.result c.loop-k-test.true (omega arith) c.top_at.ensures c.args.named.now.by_uleb.items c.loop-k.named.by_uleb.items
      c.mark_top.new.named.by_uleb.items (c.loop-k.invariant.uleb same) c.mark_top.ensures.uleb;
}

pub returns-clause-any : goal.returns-clause-any
returns-clause-any c = λ same. last_any c.args.tops.now c.loop-k.k (omega arith) c.args.named.now.by_any.items c.loop-k.named.by_any.items (c.loop-k.invariant.any same)

pub returns-clause-uleb : goal.returns-clause-uleb
returns-clause-uleb c = λ same. last_uleb c.args.rows.now c.args.tops.now c.loop-k.k (omega arith) (omega arith) c.args.named.now.by_uleb.items c.loop-k.named.by_uleb.items
    (c.loop-k.invariant.uleb same)

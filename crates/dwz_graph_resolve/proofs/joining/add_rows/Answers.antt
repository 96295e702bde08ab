use Rattle.std.proofs.lemmas.Option.{slice_get-get_or}
use Rattle.dwz_graph_resolve.specs.ListRows.{raised}
use Rattle.dwz_unit.proofs.FlatLemmas.{all_added, none_added, one_added}
use Rattle.dwz_graph_resolve.proofs.joining.add_rows.Goals as goal

pub loop-row-init : goal.loop-row-init
loop-row-init c = none_added (raised c.args.operands) c.args.more.now c.args.rows.now.items

pub loop-row-preserved : goal.loop-row-preserved
loop-row-preserved c = one_added (raised c.args.operands) c.args.more.now c.loop-row.row-index _ c.in-Some.raised c.args.rows.now.items c.loop-row.rows.items c.push.new.self.items
    (slice_get-get_or c.args.more.now c.loop-row.row-index _ c.loop-row-test.true) c.in-Some.ensures c.in_ok-push.ensures.items c.loop-row.invariant

pub returns : goal.returns
returns c = λ fits. all_added (raised c.args.operands) c.args.more.now c.loop-row.row-index c.args.rows.now.items c.loop-row.rows.items c.loop-row-test.false c.loop-row.invariant

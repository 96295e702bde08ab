use Rattle.std.proofs.Common.{◌+◌}
use Rattle.std.proofs.lemmas.Option.{slice_get-get_or}
use Rattle.dwz_unit.proofs.FlatLemmas.{all_added, none_added, one_added}
use Rattle.dwz_graph_resolve.proofs.joining.add_starts.Goals as goal

pub loop-start-init : goal.loop-start-init
loop-start-init c = none_added (λ k. c.args.from + k) c.args.more.now c.args.starts.now.items

pub loop-start-preserved : goal.loop-start-preserved
loop-start-preserved c = one_added (λ k. c.args.from + k) c.args.more.now c.loop-start.start-index _ c.in-Some.raised c.args.starts.now.items c.loop-start.starts.items c.push.new.self.items
    (slice_get-get_or c.args.more.now c.loop-start.start-index _ c.loop-start-test.true) c.in-Some.ensures.1 c.in_ok-push.ensures.items c.loop-start.invariant

pub returns : goal.returns
returns c = λ fits. all_added (λ k. c.args.from + k) c.args.more.now c.loop-start.start-index c.args.starts.now.items c.loop-start.starts.items c.loop-start-test.false c.loop-start.invariant

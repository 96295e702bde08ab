use Rattle.std.proofs.Common.{◌+◌}
use Rattle.std.proofs.lemmas.Option.{slice_get-get_or}
use Rattle.std.specs.Option.{option_map}
use Rattle.dwz_unit.proofs.FlatLemmas.{all_added, none_added, one_added}
use Rattle.dwz_graph_resolve.proofs.joining.add_lines.Goals as goal

pub loop-line-init : goal.loop-line-init
loop-line-init c = none_added (option_map (λ k. c.args.tables + k)) c.args.more.now c.args.lines.now.items

pub loop-line-preserved : goal.loop-line-preserved
loop-line-preserved c = one_added (option_map (λ k. c.args.tables + k)) c.args.more.now c.loop-line.line-index _ c.in-Some.raised c.args.lines.now.items c.loop-line.lines.items c.push.new.self.items
    (slice_get-get_or c.args.more.now c.loop-line.line-index _ c.loop-line-test.true) c.in-Some.ensures c.in_ok-push.ensures.items c.loop-line.invariant

pub returns : goal.returns
returns c = λ fits. all_added (option_map (λ k. c.args.tables + k)) c.args.more.now c.loop-line.line-index c.args.lines.now.items c.loop-line.lines.items c.loop-line-test.false c.loop-line.invariant

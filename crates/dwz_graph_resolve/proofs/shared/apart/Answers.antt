use Rattle.std.proofs.Common.{sym}
use Rattle.dwz_graph_resolve.proofs.PassLemmas.{passed_all, passed_none, step_clash, step_one, step_same}
use Rattle.dwz_graph_resolve.proofs.shared.apart.Goals as goal

pub loop-operand-init : goal.loop-operand-init
loop-operand-init c = λ none rise wide. passed_none c.args.kept.now.items none

pub loop-operand-preserved-then-repeats : goal.loop-operand-preserved-then-repeats
loop-operand-preserved-then-repeats c = λ none rise wide. step_same c.args.sorted.now c.loop-operand.kept.items c.loop-operand.last c.loop-operand.end c.loop-operand.operand-index _
    c.loop-operand-test.true (sym c.if-repeats.ensures) (c.loop-operand.invariant none rise wide)

pub returns-then-operand-end : goal.returns-then-operand-end
returns-then-operand-end c = λ none rise wide. step_clash c.args.sorted.now c.loop-operand.kept.items c.loop-operand.last c.loop-operand.end c.loop-operand.operand-index _ c.loop-operand-test.true
    rise (sym c.if-repeats.ensures) c.if-operand-end.true (c.loop-operand.invariant none rise wide)

pub loop-operand-preserved : goal.loop-operand-preserved
loop-operand-preserved c = λ none rise wide. step_one c.args.sorted.now c.loop-operand.kept.items c.push.new.self.items c.loop-operand.last c.loop-operand.end c.loop-operand.operand-index _
    c.loop-operand-test.true c.in_ok-push.ensures.items c.if-operand-end.false wide (c.loop-operand.invariant none rise wide)

pub returns : goal.returns
returns c = λ none rise wide. passed_all c.args.sorted.now c.loop-operand.kept.items c.loop-operand.last c.loop-operand.end c.loop-operand.operand-index c.loop-operand-test.false
    (c.loop-operand.invariant none rise wide)

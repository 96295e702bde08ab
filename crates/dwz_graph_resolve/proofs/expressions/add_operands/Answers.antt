use Rattle.dwz_unit.specs.Rows.{units_of}
use Rattle.dwz_graph_resolve.specs.Surroundings.{scope_within}
use Rattle.dwz_graph_resolve.proofs.OperandSteps.{names_fail, numbers_all, numbers_more, numbers_none, unnamed_at}
use Rattle.dwz_graph_resolve.proofs.expressions.add_operands.Goals as goal

pub loop-operand-init : goal.loop-operand-init
loop-operand-init c = λ u here. numbers_none (units_of c.args.units.now) (scope_within c.args.around.now (units_of c.args.units.now) u) c.args.operands.now c.args.refs.now.items

pub returns-in-None : goal.returns-in-None
returns-in-None c = λ u here. (
    let raw = units_of c.args.units.now in
    let s = scope_within c.args.around.now raw u in
    names_fail raw s c.args.section c.args.operands.now c.args.refs.now.items c.loop-operand.refs.items c.bad_operand.result _ c.bad_operand.ensures
    (unnamed_at raw s c.args.operands.now c.args.refs.now.items c.loop-operand.refs.items c.args.section c.loop-operand.operand-index _ c.loop-operand-test.true (c.in-None.ensures.looks u here)
    (c.loop-operand.invariant u here)))

pub loop-operand-preserved : goal.loop-operand-preserved
loop-operand-preserved c = λ u here. (
    let raw = units_of c.args.units.now in
    let s = scope_within c.args.around.now raw u in
    numbers_more raw s c.args.operands.now c.args.refs.now.items c.loop-operand.refs.items c.push.new.self.items c.loop-operand.operand-index c.in-Some.number _ c.loop-operand-test.true
    (c.in-Some.ensures.looks u here) c.in_ok-push-in-Some.ensures.items (c.loop-operand.invariant u here))

pub returns : goal.returns
returns c = λ u here. numbers_all (units_of c.args.units.now) (scope_within c.args.around.now (units_of c.args.units.now) u) c.args.operands.now c.args.refs.now.items c.loop-operand.refs.items
    c.loop-operand.operand-index c.loop-operand-test.false (c.loop-operand.invariant u here)

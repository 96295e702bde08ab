use Rattle.std.proofs.Common.{arith}
use Rattle.dwz_unit.specs.Rows.{units_of}
use Rattle.dwz_explain.proofs.ChildSteps.{begins, child_there, entry_there, has_child, none_there, passes_one, sibling_there, some_room}
use Rattle.dwz_explain.proofs.children.child_of.Goals as goal

pub entry-end-requires : goal.entry-end-requires
entry-end-requires c = entry_there (units_of c.args.units.now) c.args.entry c.requires

pub overflow_add-at : goal.overflow_add-at
overflow_add-at c = let room = some_room (units_of c.args.units.now) c.args.entry c.entry-end.result c.requires c.entry-end.ensures.entry in omega arith

pub loop-init : goal.loop-init
loop-init c = begins (units_of c.args.units.now) c.args.entry c.args.index c.entry-end.result c.requires c.entry-end.ensures.entry

pub entry-at-requires : goal.entry-at-requires
entry-at-requires c = sibling_there (units_of c.args.units.now) c.args.entry c.args.index c.loop.counter c.loop.at c.entry-end.result.end c.loop.invariant c.if-at-end.false

pub loop-preserved : goal.loop-preserved
loop-preserved c =
    passes_one (units_of c.args.units.now) c.args.entry c.args.index c.loop.counter c.loop.at c.entry-end.result.end c.entry-at.result c.loop.invariant c.loop-test.true c.if-at-end.false
    c.entry-at.ensures.entry

pub returns-then-at-end-clause-child : goal.returns-then-at-end-clause-child
returns-then-at-end-clause-child c = none_there (units_of c.args.units.now) c.args.entry c.args.index c.loop.counter c.loop.at c.entry-end.result.end c.loop.invariant c.if-at-end.true

pub returns-then-at-end-2-clause-has : goal.returns-then-at-end-2-clause-has
returns-then-at-end-2-clause-has c = has_child (units_of c.args.units.now) c.args.entry c.args.index c.loop.counter c.loop.at c.entry-end.result.end c.loop.invariant c.if-at-end-2.true

pub returns-then-at-end-2-clause-child : goal.returns-then-at-end-2-clause-child
returns-then-at-end-2-clause-child c =
    child_there (units_of c.args.units.now) c.args.entry c.args.index c.loop.counter c.loop.at c.entry-end.result.end c.loop.invariant c.loop-test.false c.if-at-end-2.true

pub returns-else-at-end-2-clause-child : goal.returns-else-at-end-2-clause-child
returns-else-at-end-2-clause-child c = none_there (units_of c.args.units.now) c.args.entry c.args.index c.loop.counter c.loop.at c.entry-end.result.end c.loop.invariant c.if-at-end-2.false

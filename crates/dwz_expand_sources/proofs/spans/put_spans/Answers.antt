use Rattle.std.proofs.Common.{arith}
use Rattle.dwz_unit.specs.Rows.{units_of}
use Rattle.dwz_graph.proofs.UnitBuilding.{root_within}
use Rattle.dwz_expand_sources.proofs.SpanSteps.{spans_end, spans_on}
use Rattle.dwz_expand_sources.proofs.UnitSteps.{root_room}
use Rattle.dwz_expand_sources.proofs.spans.put_spans.Goals as goal

pub entry-end-requires : goal.entry-end-requires
entry-end-requires c = root_within (units_of c.args.units.now) c.loop-n.n c.unit-root.result c.unit-root.ensures

pub overflow_add-before : goal.overflow_add-before
overflow_add-before c =
    let r = root_room (units_of c.args.units.now) c.loop-n.n c.unit-root.result c.entry-end.result c.unit-root.ensures c.entry-end.ensures.entry in
    let some = r.some in
    let within = r.within in
    let room = c.requires in
    omega arith

pub overflow_add-before-in-loop-n : goal.overflow_add-before-in-loop-n
overflow_add-before-in-loop-n c =
    let r = root_room (units_of c.args.units.now) c.loop-n.n c.unit-root.result c.entry-end.result c.unit-root.ensures c.entry-end.ensures.entry in
    let within = r.within in
    let room = c.requires in
    omega arith

pub loop-n-preserved : goal.loop-n-preserved
loop-n-preserved c = spans_on (units_of c.args.units.now) c.args.before c.args.spans.now.items c.loop-n.n c.loop-n.spans.items c.push.new.self.items c.unit-root.result c.entry-end.result c.loop-n.invariant
    c.unit-root.ensures c.entry-end.ensures.entry c.in_ok-push.ensures.items

pub returns : goal.returns
returns c = spans_end (units_of c.args.units.now) c.args.before c.args.spans.now.items c.loop-n.n c.loop-n.spans.items c.loop-n.invariant (omega arith)

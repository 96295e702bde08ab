use Rattle.std.proofs.Common.{arith}
use Rattle.dwz_unit.specs.Rows.{units_of}
use Rattle.dwz_graph.proofs.BelowLemmas.{next_list}
use Rattle.dwz_graph.proofs.ListLemmas.{within}
use Rattle.dwz_check_index.proofs.BelowBuilding.{ends, goes_on}
use Rattle.dwz_check_index.proofs.building.+put_below.Goals as goal

pub entry-next-requires : goal.entry-next-requires
entry-next-requires t c =
    let low = c.loop-entry-test.true in
    let all = within (units_of c.args.units.now) c.loop-entry.entry c.args.end c.loop-entry.invariant.list low in
    omega arith

pub put_below-requires : goal.put_below-requires
put_below-requires t c =
    let n = next_list (units_of c.args.units.now) c.loop-entry.entry c.args.end c.entry-next.result c.loop-entry.invariant.list c.loop-entry-test.true c.entry-next.ensures.entry in
    let d = c.decreases in
    let low = c.loop-entry.invariant.low in
    let more = n.2 in
    let less = n.3 in
    (omega arith, n.0)

pub loop-entry-smaller : goal.loop-entry-smaller
loop-entry-smaller t c =
    let n = next_list (units_of c.args.units.now) c.loop-entry.entry c.args.end c.entry-next.result c.loop-entry.invariant.list c.loop-entry-test.true c.entry-next.ensures.entry in
    let more = n.2 in
    let low = c.loop-entry-test.true in
    omega arith

pub loop-entry-preserved : goal.loop-entry-preserved
loop-entry-preserved t c =
    goes_on (units_of c.args.units.now) c.args.first c.args.end c.args.up c.args.stands c.args.steps.now.items c.loop-entry.steps.items c.push.new.self.items c.put_below.new.steps.items
    c.loop-entry.entry c.loop-entry.index c.entry-next.result
    c.loop-entry.invariant c.loop-entry-test.true c.entry-next.ensures.entry c.in_ok-push.ensures.items c.in_ok-put_below.ensures

pub returns : goal.returns
returns t c = λ list is. ends (units_of c.args.units.now) c.args.first c.args.end c.args.up c.args.stands c.args.steps.now.items c.loop-entry.steps.items c.loop-entry.entry c.loop-entry.index
    c.loop-entry.invariant c.loop-entry-test.false list is

use Rattle.std.proofs.Common.{arith}
use Rattle.std.proofs.lemmas.Result.{on_ok_weaker}
use Rattle.dwz_unit.specs.Rows.{units_of}
use Rattle.dwz_graph.proofs.BelowLemmas.{next_list}
use Rattle.dwz_graph.proofs.ListLemmas.{within}
use Rattle.dwz_expand_sources.proofs.ListSteps.{ends, keeps, skips}
use Rattle.dwz_expand_sources.proofs.building.put_kept.Goals as goal

pub entry-next-requires : goal.entry-next-requires
entry-next-requires c =
    let low = c.loop-at-test.true in
    let all = within (units_of c.args.units.now) c.loop-at.at c.args.end c.loop-at.invariant.list low in
    omega arith

pub bounds-importing-at : goal.bounds-importing-at
bounds-importing-at c =
    let low = c.loop-at-test.true in
    let marks = c.requires.marks in
    let all = within (units_of c.args.units.now) c.loop-at.at c.args.end c.loop-at.invariant.list low in
    omega arith

pub loop-at-smaller-in_ok-put_range : goal.loop-at-smaller-in_ok-put_range
loop-at-smaller-in_ok-put_range c =
    let n = next_list (units_of c.args.units.now) c.loop-at.at c.args.end c.entry-next.result c.loop-at.invariant.list c.loop-at-test.true c.entry-next.ensures.entry in
    let more = n.2 in
    let low = c.loop-at-test.true in
    omega arith

pub loop-at-preserved-in_ok-put_range : goal.loop-at-preserved-in_ok-put_range
loop-at-preserved-in_ok-put_range c =
    skips (units_of c.args.units.now) c.args.importing.now c.args.first c.args.end c.args.ranges.now.items c.loop-at.ranges.items c.put_range.new.ranges.items c.loop-at.from c.loop-at.at
    c.entry-next.result c.loop-at.invariant c.loop-at-test.true c.entry-next.ensures.entry c.if-importing-at.true c.in_ok-put_range.ensures

pub loop-at-smaller : goal.loop-at-smaller
loop-at-smaller c =
    let n = next_list (units_of c.args.units.now) c.loop-at.at c.args.end c.entry-next.result c.loop-at.invariant.list c.loop-at-test.true c.entry-next.ensures.entry in
    let more = n.2 in
    let low = c.loop-at-test.true in
    omega arith

pub loop-at-preserved : goal.loop-at-preserved
loop-at-preserved c =
    keeps (units_of c.args.units.now) c.args.importing.now c.args.first c.args.end c.args.ranges.now.items c.loop-at.ranges.items c.loop-at.from c.loop-at.at
    c.entry-next.result c.loop-at.invariant c.loop-at-test.true c.entry-next.ensures.entry c.if-importing-at.false

pub returns : goal.returns
returns c = λ list is. on_ok_weaker c.put_range-2.result
    (λ put. ends (units_of c.args.units.now) c.args.importing.now c.args.first c.args.end c.args.ranges.now.items c.loop-at.ranges.items c.put_range-2.new.ranges.items c.loop-at.from c.loop-at.at
    c.loop-at.invariant c.loop-at-test.false put list is) c.put_range-2.ensures

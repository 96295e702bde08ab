use Rattle.std.proofs.Common.{◌∙◌, arith}
use Rattle.dwz_graph.proofs.BelowLemmas.{next_list}
use Rattle.dwz_graph.proofs.ListLemmas.{within}
use Rattle.dwz_unit.specs.Rows.{units_of}
use Rattle.dwz_layout_order.proofs.OutlineSteps.{long_enough, nothing_left, put_long, room_inside, with_space, with_top}
use Rattle.dwz_layout_order.proofs.outline.+put_list.Goals as goal

pub entry-behind-requires : goal.entry-behind-requires
entry-behind-requires t c =
    let low = c.loop-entry-test.true in
    let all = within (units_of c.args.units.now) c.loop-entry.entry c.args.end c.loop-entry.invariant.list low in
    omega arith

pub is_space-requires : goal.is_space-requires
is_space-requires t c =
    let low = c.loop-entry-test.true in
    let all = within (units_of c.args.units.now) c.loop-entry.entry c.args.end c.loop-entry.invariant.list low in
    omega arith

pub put_list-requires : goal.put_list-requires
put_list-requires t c =
    let raw = units_of c.args.units.now in
    let l = c.loop-entry in
    let n = next_list raw l.entry c.args.end c.entry-behind.result l.invariant.list c.loop-entry-test.true c.entry-behind.ensures.entry in
    let d = c.decreases in
    let more = n.2 in
    let less = n.3 in
    let low = l.invariant.low in (
      omega arith,
      (
        n.0,
        room_inside raw c.args.first c.args.end c.args.marks.now c.args.outers.now.items l.outers.items c.args.next.now l.next l.pinned l.entry l.invariant c.entry-behind.result c.is_space.result
            c.loop-entry-test.true c.entry-behind.ensures.entry c.is_space.ensures
            c.open.new.next c.in_ok-at.ensures.next,
      ),
    )

pub close-found-requires-clause-there : goal.close-found-requires-clause-there
close-found-requires-clause-there t c =
    let raw = units_of c.args.units.now in
    let l = c.loop-entry in
    let long =
    put_long raw c.args.first c.args.end c.args.marks.now c.args.outers.now.items l.outers.items c.args.next.now l.next l.pinned l.entry l.invariant c.entry-behind.result c.is_space.result
    c.loop-entry-test.true c.entry-behind.ensures.entry c.is_space.ensures
    c.open.new.outers.items c.put_list.new.outers.items c.open.new.next c.in_ok-at.ensures.outers c.in_ok-inner.ensures.outers in
    let low = long.0 in
    let place = c.in_ok-at.ensures.place in
    omega arith

pub loop-entry-smaller-in_ok-inner : goal.loop-entry-smaller-in_ok-inner
loop-entry-smaller-in_ok-inner t c =
    let n = next_list (units_of c.args.units.now) c.loop-entry.entry c.args.end c.entry-behind.result c.loop-entry.invariant.list c.loop-entry-test.true c.entry-behind.ensures.entry in
    let more = n.2 in
    let low = c.loop-entry-test.true in
    omega arith

pub loop-entry-smaller : goal.loop-entry-smaller
loop-entry-smaller t c =
    let n = next_list (units_of c.args.units.now) c.loop-entry.entry c.args.end c.entry-behind.result c.loop-entry.invariant.list c.loop-entry-test.true c.entry-behind.ensures.entry in
    let more = n.2 in
    let low = c.loop-entry-test.true in
    omega arith

pub loop-entry-preserved-in_ok-inner : goal.loop-entry-preserved-in_ok-inner
loop-entry-preserved-in_ok-inner t c =
    let raw = units_of c.args.units.now in
    let l = c.loop-entry in
    with_space raw c.args.first c.args.end c.args.marks.now c.args.outers.now.items l.outers.items c.args.next.now l.next l.pinned l.entry l.invariant c.entry-behind.result c.is_space.result
    c.loop-entry-test.true c.entry-behind.ensures.entry c.is_space.ensures
    c.open.new.outers.items c.put_list.new.outers.items c.close-found.new.outers.items c.open.new.next c.put_list.new.next c.in_ok-inner.inner c.close-found.result c.either-pinned.result
    c.if-is_space.true
    (record {
      open_is = c.in_ok-at.ensures.outers;
      inside_is = c.in_ok-at.ensures.next;
      put_is = c.in_ok-inner.ensures.outers;
      after_is = c.in_ok-inner.ensures.next;
      inner_is = c.in_ok-inner.ensures.pinned;
      shut_is = λ before others y e at. c.close-found.ensures.outers before others y e (c.in_ok-at.ensures.place ∙ at);
      found_is = λ before others y e at. c.close-found.ensures.is before others y e (c.in_ok-at.ensures.place ∙ at);
      any_is = c.either-pinned.ensures;
    })

pub loop-entry-preserved : goal.loop-entry-preserved
loop-entry-preserved t c =
    let raw = units_of c.args.units.now in
    let l = c.loop-entry in
    with_top raw c.args.first c.args.end c.args.marks.now c.args.outers.now.items l.outers.items c.args.next.now l.next l.pinned l.entry l.invariant c.entry-behind.result c.is_space.result
    c.loop-entry-test.true c.entry-behind.ensures.entry c.is_space.ensures
    c.put_top.new.outers.items c.put_top.new.next c.in_ok-found.found c.either-pinned-else-is_space.result c.if-is_space.false c.in_ok-found.ensures.outers c.in_ok-found.ensures.next
    c.in_ok-found.ensures.pinned c.either-pinned-else-is_space.ensures

pub returns-clause-outers : goal.returns-clause-outers
returns-clause-outers t c = λ list is. (let l = c.loop-entry in
    (nothing_left (units_of c.args.units.now) c.args.first c.args.end c.args.marks.now c.args.outers.now.items l.outers.items c.args.next.now l.next l.pinned l.entry l.invariant
    c.loop-entry-test.false list is).0)

pub returns-clause-next : goal.returns-clause-next
returns-clause-next t c = λ list is. (let l = c.loop-entry in
    (nothing_left (units_of c.args.units.now) c.args.first c.args.end c.args.marks.now c.args.outers.now.items l.outers.items c.args.next.now l.next l.pinned l.entry l.invariant
    c.loop-entry-test.false list is).1)

pub returns-clause-pinned : goal.returns-clause-pinned
returns-clause-pinned t c = λ list is. (let l = c.loop-entry in
    (nothing_left (units_of c.args.units.now) c.args.first c.args.end c.args.marks.now c.args.outers.now.items l.outers.items c.args.next.now l.next l.pinned l.entry l.invariant
    c.loop-entry-test.false list is).2)

pub returns-clause-few : goal.returns-clause-few
returns-clause-few t c =
    let raw = units_of c.args.units.now in
    let l = c.loop-entry in
    long_enough raw c.args.first c.args.end c.args.marks.now c.args.outers.now.items l.outers.items c.args.next.now c.requires.rows
    (λ list is. (nothing_left raw c.args.first c.args.end c.args.marks.now c.args.outers.now.items l.outers.items c.args.next.now l.next l.pinned l.entry l.invariant c.loop-entry-test.false list
    is).0)

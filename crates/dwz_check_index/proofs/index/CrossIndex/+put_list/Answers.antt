use Rattle.std.proofs.Common.{◌+◌, sym, ap, subst, ◌∙◌, arith}
use Rattle.dwz_def_reading.specs.Units.{entries_in}
use Rattle.dwz_unit.specs.Rows.{units_of}
use Rattle.dwz_graph.proofs.BelowLemmas.{next_list}
use Rattle.dwz_graph.proofs.ListLemmas.{within}
use Rattle.dwz_check_index.specs.declared.index.CrossStarts.{CrossStarts}
use Rattle.dwz_check_index.specs.Building.{HasRoom, IsFew}
use Rattle.dwz_check_index.specs.Index.{CrossIndex}
use Rattle.dwz_check_index.proofs.ListBuilding.{Goes, ends, few_outer, with_one_space, with_one_top}
use Rattle.dwz_check_index.proofs.index.CrossIndex.+put_list.Goals as goal
use Rattle.dwz_check_index.proofs.index.CrossIndex.+put_list.Goals.{then-is_space+in_ok-put_outer+in_ok-put_list, else-is_space+in_ok-put_top}

pub entry-next-requires : goal.entry-next-requires
entry-next-requires t c =
    let low = c.loop-entry-test.true in
    let all = within (units_of c.args.units.now) c.loop-entry.entry c.args.end c.loop-entry.invariant.list low in
    omega arith

pub is_space-requires : goal.is_space-requires
is_space-requires t c =
    let low = c.loop-entry-test.true in
    let all = within (units_of c.args.units.now) c.loop-entry.entry c.args.end c.loop-entry.invariant.list low in
    omega arith

pub put_list-requires : goal.put_list-requires
put_list-requires t c =
    let n = next_list (units_of c.args.units.now) c.loop-entry.entry c.args.end c.entry-next.result c.loop-entry.invariant.list c.loop-entry-test.true c.entry-next.ensures.entry in
    let d = c.decreases in
    let low = c.loop-entry.invariant.low in
    let more = n.2 in
    let less = n.3 in
    let opened = c.in_ok-put_outer.ensures in (
      omega arith,
      (
        n.0,
        (
          subst (λ (s : CrossStarts). HasRoom s (entries_in (units_of c.args.units.now))) (sym (ap (λ (w : CrossIndex). w.starts) opened ∙ c.loop-entry.invariant.starts)) c.requires.room,
          subst (λ (w : CrossIndex). IsFew w (c.loop-entry.entry + 1)) (sym opened) (few_outer c.args.stands c.args.up c.loop-entry.index c.loop-entry.entry c.loop-entry.self c.loop-entry.invariant.few),
        ),
      ),
    )

pub put_top-requires-clause-rows : goal.put_top-requires-clause-rows
put_top-requires-clause-rows t c = (next_list (units_of c.args.units.now) c.loop-entry.entry c.args.end c.entry-next.result c.loop-entry.invariant.list c.loop-entry-test.true
    c.entry-next.ensures.entry).0

pub put_top-requires-clause-there : goal.put_top-requires-clause-there
put_top-requires-clause-there t c =
    let low = c.loop-entry-test.true in
    let all = within (units_of c.args.units.now) c.loop-entry.entry c.args.end c.loop-entry.invariant.list low in
    omega arith

pub loop-entry-smaller : goal.loop-entry-smaller
loop-entry-smaller t c =
    let n = next_list (units_of c.args.units.now) c.loop-entry.entry c.args.end c.entry-next.result c.loop-entry.invariant.list c.loop-entry-test.true c.entry-next.ensures.entry in
    let more = n.2 in
    let low = c.loop-entry-test.true in
    omega arith

pub loop-entry-preserved : goal.loop-entry-preserved
loop-entry-preserved t c = elim c.if-is_space.branch [
  | then-is_space+in_ok-put_outer+in_ok-put_list w ↦
      subst (λ (x : CrossIndex). Goes (units_of c.args.units.now) c.args.first c.args.end c.args.unit c.args.up c.args.stands c.args.self.now x c.entry-next.result.end (c.loop-entry.index + 1))
      (sym w.self-is)
      (with_one_space (units_of c.args.units.now) c.args.first c.args.end c.args.unit c.args.up c.args.stands c.args.self.now c.loop-entry.self w.put_outer.new.self w.put_list.new.self
      c.loop-entry.entry c.loop-entry.index c.entry-next.result c.is_space.result c.loop-entry.invariant c.loop-entry-test.true c.entry-next.ensures.entry c.is_space.ensures w.if-is_space.true
      w.in_ok-put_outer.ensures w.in_ok-put_list.ensures)
  | else-is_space+in_ok-put_top w ↦
      subst (λ (x : CrossIndex). Goes (units_of c.args.units.now) c.args.first c.args.end c.args.unit c.args.up c.args.stands c.args.self.now x c.entry-next.result.end (c.loop-entry.index + 1))
      (sym w.self-is)
      (with_one_top (units_of c.args.units.now) c.args.first c.args.end c.args.unit c.args.up c.args.stands c.args.self.now c.loop-entry.self w.put_top.new.self c.loop-entry.entry c.loop-entry.index
      c.entry-next.result c.is_space.result c.loop-entry.invariant c.loop-entry-test.true c.entry-next.ensures.entry c.is_space.ensures w.if-is_space.false w.in_ok-put_top.ensures)
]

pub returns : goal.returns
returns t c = λ list is. ends (units_of c.args.units.now) c.args.first c.args.end c.args.unit c.args.up c.args.stands c.args.self.now c.loop-entry.self c.loop-entry.entry c.loop-entry.index
    c.loop-entry.invariant c.loop-entry-test.false list is

use Rattle.std.proofs.Common.{ℕ, length, sym, subst, arith}
use Rattle.dwz_unit.specs.Rows.{units_of}
use Rattle.dwz_graph_resolve.proofs.SearchLemmas.{Searched, search_begins, search_down, search_ends, search_up}
use Rattle.dwz_graph_resolve.proofs.UnitStarts.{no_whole, starts, starts_many, starts_rise, unit_start, whole_there}
use Rattle.dwz_graph_resolve.proofs.ranges.is_unit.Goals as goal

pub loop-low-init : goal.loop-low-init
loop-low-init c =
    let raw = units_of c.args.units.now in
    subst (λ (n : ℕ). Searched (starts raw) 0 (length raw) c.args.place 0 n) (sym c.len-high.ensures) (search_begins (starts raw) 0 (length raw) c.args.place)

pub loop-low-preserved-then-at-place-2 : goal.loop-low-preserved-then-at-place-2
loop-low-preserved-then-at-place-2 c =
    let many = starts_many (units_of c.args.units.now) in
    let to = c.loop-low.invariant.to in
    search_up (starts (units_of c.args.units.now)) 0 (length (units_of c.args.units.now)) c.args.place c.loop-low.low c.loop-low.high _ c.unit-unit.result.at (starts_rise c.args.units.now) (omega arith)
    (omega arith) (omega arith)
    (unit_start (units_of c.args.units.now) _ c.unit-unit.result c.unit-unit.ensures) c.if-at-place-2.true c.loop-low.invariant

pub loop-low-preserved : goal.loop-low-preserved
loop-low-preserved c =
    let many = starts_many (units_of c.args.units.now) in
    search_down (starts (units_of c.args.units.now)) 0 (length (units_of c.args.units.now)) c.args.place c.loop-low.low c.loop-low.high _ c.unit-unit.result.at (starts_rise c.args.units.now)
    (omega arith) (omega arith) (omega arith)
    (unit_start (units_of c.args.units.now) _ c.unit-unit.result c.unit-unit.ensures) (let n = c.if-at-place.false in let m = c.if-at-place-2.false in grind arith) c.loop-low.invariant

pub returns-then-at-place : goal.returns-then-at-place
returns-then-at-place c = sym (whole_there c.args.units.now _ c.args.place c.unit-unit.result c.unit-unit.ensures c.if-at-place.true)

pub returns : goal.returns
returns c =
    let raw = units_of c.args.units.now in
    let many = starts_many raw in
    sym (no_whole raw c.args.place
    (λ k l e. search_ends (starts raw) 0 (length raw) c.args.place c.loop-low.low c.loop-low.high c.loop-low-test.false c.loop-low.invariant k (omega arith) (omega arith) e))

use Rattle.std.proofs.Common.{arith, ◌∙◌}
use Rattle.dwz_unit.specs.Rows.{units_of}
use Rattle.dwz_graph.specs.Resolved.{places}
use Rattle.dwz_graph.proofs.PlaceLemmas.{entry_place, places_many, places_rise}
use Rattle.dwz_graph.proofs.SearchLemmas.{search_begins, search_down, search_ends, search_up}
use Rattle.dwz_check_columns.proofs.paths.entry_at.Goals as goal

pub loop-low-init : goal.loop-low-init
loop-low-init c = search_begins (places (units_of c.args.units.now)) c.args.first c.args.end c.args.place

pub loop-low-preserved-then-at-place-2 : goal.loop-low-preserved-then-at-place-2
loop-low-preserved-then-at-place-2 c =
    let many = places_many (units_of c.args.units.now) in
    search_up (places (units_of c.args.units.now)) c.args.first c.args.end c.args.place c.loop-low.low c.loop-low.high _ c.entry-at.result.at (places_rise c.args.units.now) (omega arith) (omega arith)
    (omega (arith, c.requires))
    (entry_place (units_of c.args.units.now) _ c.entry-at.result c.entry-at.ensures.entry) c.if-at-place-2.true c.loop-low.invariant

pub loop-low-preserved : goal.loop-low-preserved
loop-low-preserved c =
    let many = places_many (units_of c.args.units.now) in
    search_down (places (units_of c.args.units.now)) c.args.first c.args.end c.args.place c.loop-low.low c.loop-low.high _ c.entry-at.result.at (places_rise c.args.units.now) (omega arith)
    (omega arith) (omega (arith, c.requires))
    (entry_place (units_of c.args.units.now) _ c.entry-at.result c.entry-at.ensures.entry) (let n = c.if-at-place.false in let m = c.if-at-place-2.false in grind arith) c.loop-low.invariant

pub returns-then-at-place : goal.returns-then-at-place
returns-then-at-place c =
    let place = entry_place (units_of c.args.units.now) _ c.entry-at.result c.entry-at.ensures.entry in
    let from = c.loop-low.invariant.from in
    let to = c.loop-low.invariant.to in
    record { found = (omega arith, omega arith, place ∙ c.if-at-place.true); none = λ e. absurd cc }

pub returns : goal.returns
returns c = record {
  found = tt;
  none = λ e i l m is. search_ends (places (units_of c.args.units.now)) c.args.first c.args.end c.args.place c.loop-low.low c.loop-low.high c.loop-low-test.false
      c.loop-low.invariant i l m is;
}

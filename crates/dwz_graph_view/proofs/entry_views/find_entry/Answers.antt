use Rattle.std.proofs.Common.{arith}
use Rattle.dwz_unit.specs.Rows.{units_of}
use Rattle.dwz_def_reading.specs.Units.{entries_in}
use Rattle.dwz_graph.specs.Places.{places}
use Rattle.dwz_graph.proofs.PlaceLemmas.{entry_place, places_many, places_rise}
use Rattle.dwz_graph.proofs.SearchLemmas.{search_down, search_up}
use Rattle.dwz_graph_view.proofs.entry_views.find_entry.Goals as goal

pub loop-low-preserved-then-at-offset-2 : goal.loop-low-preserved-then-at-offset-2
loop-low-preserved-then-at-offset-2 c =
    let raw = units_of c.args.units.now in
    let many = places_many raw in
    search_up (places raw) 0 (entries_in raw) c.args.offset c.loop-low.low c.loop-low.high _ c.entry-at.result.at (places_rise c.args.units.now) (omega arith) (omega arith) (omega (arith, many))
    (entry_place raw _ c.entry-at.result c.entry-at.ensures.entry) c.if-at-offset-2.true c.loop-low.invariant

pub loop-low-preserved : goal.loop-low-preserved
loop-low-preserved c =
    let raw = units_of c.args.units.now in
    let many = places_many raw in
    search_down (places raw) 0 (entries_in raw) c.args.offset c.loop-low.low c.loop-low.high _ c.entry-at.result.at (places_rise c.args.units.now) (omega arith) (omega arith) (omega (arith, many))
    (entry_place raw _ c.entry-at.result c.entry-at.ensures.entry) (let n = c.if-at-offset.false in let m = c.if-at-offset-2.false in grind arith) c.loop-low.invariant

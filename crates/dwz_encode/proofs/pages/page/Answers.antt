use Rattle.std.proofs.Common.{◌<◌, ◌∙◌, Some, ap, arith, length, sym}
use Rattle.std.proofs.lemmas.Option.{slice_get-get_or}
use Rattle.dwz_layout.specs.declared.layout.OutUnit.{OutUnit}
use Rattle.dwz_layout.specs.declared.order.UnitItems.{UnitItems}
use Rattle.dwz_encode.specs.Pages.{units_page}
use Rattle.dwz_encode.proofs.ByteLemmas.{pages_done, pages_step}
use Rattle.dwz_encode.proofs.pages.page.Goals as goal

pub loop-i-preserved : goal.loop-i-preserved
loop-i-preserved c =
    let i = c.loop-i.i in
    let known = c.args.known.now in
    let places = c.args.spots.now.places.items in
    let roots = c.args.spots.now.roots.items in
    let units = c.args.units.now in
    let laid = c.args.laid.now in
    let u = c.index-units-i.result in
    let o = c.index-laid-i.result in
    let lt : i < length units = omega (arith, c.min-i-end.ensures, c.loop-i-test.true) in
    let less : i < length laid = omega (arith, c.min-i-end.ensures, c.loop-i-test.true) in
    let a = slice_get-get_or units i u lt ∙ ap (λ (x : UnitItems). Some x) (sym c.index-units-i.is) in
    let b = slice_get-get_or laid i o less ∙ ap (λ (x : OutUnit). Some x) (sym c.index-laid-i.is) in
    pages_step known places roots c.loop-i.bytes.items c.put_unit.new.out.items (units_page known places roots c.args.first units laid)
    units laid i c.loop-i.here c.in_ok-here.here u o c.in_ok-here.ensures a b c.in_ok-put_unit.ensures c.loop-i.invariant

pub returns : goal.returns
returns c =
    let known = c.args.known.now in
    let places = c.args.spots.now.places.items in
    let roots = c.args.spots.now.roots.items in
    let units = c.args.units.now in
    let laid = c.args.laid.now in
    c.new.ensures
    ∙ pages_done known places roots units laid c.loop-i.i c.loop-i.here c.loop-i.bytes.items
    (units_page known places roots c.args.first units laid)
    (λ lt. omega (arith, c.min-i-end.ensures, c.loop-i-test.false, lt)) c.loop-i.invariant

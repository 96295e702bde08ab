use Rattle.std.proofs.Common.{◌<◌, ◌∙◌, Some, ap, arith, length, sym}
use Rattle.std.proofs.lemmas.Option.{slice_get-get_or}
use Rattle.dwz_layout.specs.declared.layout.OutUnit.{OutUnit}
use Rattle.dwz_layout.specs.declared.order.UnitItems.{UnitItems}
use Rattle.dwz_encode.specs.Pages.{units_page}
use Rattle.dwz_encode.proofs.ByteLemmas.{pages_done, pages_step}
use Rattle.dwz_encode.proofs.units.info_of.Goals as goal

pub loop-i-preserved : goal.loop-i-preserved
loop-i-preserved c =
    let i = c.loop-i.i in
    let u = c.index-units-i.result in
    let order = c.args.units.now in
    let outs = c.args.laid.now.units.items in
    let lt : i < length order = omega (arith, c.min-i-end.ensures, c.loop-i-test.true) in
    let a = slice_get-get_or order i u lt ∙ ap (λ (x : UnitItems). Some x) (sym c.index-units-i.is) in
    let less : i < length outs = omega (arith, c.min-i-end.ensures, c.len.ensures, c.loop-i-test.true) in
    let o = c.index.result.now in
    let b = slice_get-get_or outs i o less ∙ ap (λ (x : OutUnit). Some x) (sym c.index.ensures) in
    pages_step c.args.known.now c.args.spots.now.places.items c.args.spots.now.roots.items c.loop-i.info.items c.put_unit.new.out.items
    (units_page c.args.known.now c.args.spots.now.places.items c.args.spots.now.roots.items c.args.first order outs)
    order outs i c.loop-i.here c.in_ok-here.here u o c.in_ok-here.ensures a b c.in_ok-put_unit.ensures c.loop-i.invariant

pub returns : goal.returns
returns c =
    let order = c.args.units.now in
    let outs = c.args.laid.now.units.items in
    pages_done c.args.known.now c.args.spots.now.places.items c.args.spots.now.roots.items order outs c.loop-i.i c.loop-i.here c.loop-i.info.items
    (units_page c.args.known.now c.args.spots.now.places.items c.args.spots.now.roots.items c.args.first order outs)
    (λ lt. omega (arith, c.min-i-end.ensures, c.len.ensures, c.loop-i-test.false, lt)) c.loop-i.invariant

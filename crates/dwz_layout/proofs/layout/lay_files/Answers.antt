use Rattle.std.proofs.Common.{◌+◌, ◌∙◌, List, ap, refl, ℕ}
use Rattle.dwz_layout.specs.declared.order.UnitItems.{UnitItems}
use Rattle.dwz_layout.specs.Laid.{made, no_unit, with_units}
use Rattle.dwz_layout.proofs.LaidLemmas.{all_made, files_done, files_more}
use Rattle.dwz_layout.proofs.layout.lay_files.Goals as goal

pub loop-units-preserved : goal.loop-units-preserved
loop-units-preserved c =
    let k = c.args.known.now in
    let old = c.loop-units.spots in
    let f = c.units-item.result in
    let count = c.len-in-loop-units.ensures in
    files_more k c.args.files.now c.loop-units.first c.in_ok-first-2.first c.loop-units.units-index f c.loop-units.laid.items c.push.new.self.items c.in_ok-lay_file.field-0
    (made c.in_ok-lay_file.field-0 c.lay_file.new.spots)
    old.places.items old.roots.items _ c.loop-units-test.true c.units-item.is (c.in_ok-first-2.ensures ∙ ap (λ (n : ℕ). c.loop-units.first + n) count) c.in_ok-push.ensures.items
    (c.in_ok-lay_file.ensures ∙ ap (λ (w : List UnitItems). with_units k c.loop-units.first w (no_unit old.places.items old.roots.items)) c.as_slice.ensures) refl refl refl c.loop-units.invariant

pub returns : goal.returns
returns c =
    files_done c.args.known.now c.args.files.now c.loop-units.first c.loop-units.units-index (all_made c.loop-units.laid.items c.loop-units.spots.places.items c.loop-units.spots.roots.items) _
    c.loop-units-test.false c.loop-units.invariant

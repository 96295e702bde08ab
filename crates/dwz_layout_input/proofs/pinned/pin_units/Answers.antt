use Rattle.std.proofs.Common.{arith}
use Rattle.dwz_move.specs.Marked.{expression_pins}
use Rattle.dwz_unit.specs.Rows.{units_of}
use Rattle.dwz_move_files.proofs.MarkSteps.{units_first, units_last, units_next}
use Rattle.dwz_layout_input.proofs.pinned.pin_units.Goals as goal

pub loop-n-init : goal.loop-n-init
loop-n-init c = λ around refs name said knows means. units_first around (units_of c.args.units.now) said means name expression_pins c.args.named.now.by_uleb.items

pub loop-n-preserved : goal.loop-n-preserved
loop-n-preserved c = λ around refs name said knows means.
    units_next around (units_of c.args.units.now) said means name expression_pins c.loop-n.n (omega arith) c.args.named.now.by_uleb.items c.loop-n.named.by_uleb.items
    c.mark_unit.new.named.by_uleb.items
    (c.loop-n.invariant around refs name said knows means) (λ u v is m. c.in_ok-mark_unit.ensures.uleb around refs name u v knows is m)

pub returns : goal.returns
returns c = λ around refs name said knows means.
    units_last around (units_of c.args.units.now) said means name expression_pins c.loop-n.n (omega arith) c.args.named.now.by_uleb.items c.loop-n.named.by_uleb.items
    (c.loop-n.invariant around refs name said knows means)

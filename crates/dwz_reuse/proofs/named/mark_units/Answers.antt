use Rattle.std.proofs.Common.{arith}
use Rattle.dwz_move.specs.Marked.{expression_names}
use Rattle.dwz_unit.specs.Rows.{units_of}
use Rattle.dwz_move_files.proofs.MarkSteps.{units_first, units_last, units_next}
use Rattle.dwz_reuse.proofs.named.mark_units.Goals as goal

pub loop-n-init : goal.loop-n-init
loop-n-init c = λ around refs name said knows means. units_first around (units_of c.args.units.now) said means name expression_names c.args.named.now.by_any.items

pub loop-n-preserved : goal.loop-n-preserved
loop-n-preserved c = λ around refs name said knows means. units_next around (units_of c.args.units.now) said means name expression_names c.loop-n.n (omega arith) c.args.named.now.by_any.items
    c.loop-n.named.by_any.items c.mark_unit.new.named.by_any.items
    (c.loop-n.invariant around refs name said knows means) (λ u v is m. c.in_ok-mark_unit.ensures.any around refs name u v knows is m)

pub returns : goal.returns
returns c = λ around refs name said knows means. units_last around (units_of c.args.units.now) said means name expression_names c.loop-n.n (omega arith) c.args.named.now.by_any.items
    c.loop-n.named.by_any.items (c.loop-n.invariant around refs name said knows means)

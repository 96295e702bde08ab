use Rattle.std.proofs.Common.{arith}
use Rattle.dwz_unit.specs.Rows.{units_of}
use Rattle.dwz_reuse.proofs.UnitPuts.{units_last, units_next, units_none}
use Rattle.dwz_reuse.proofs.unit_edges.put_units.Goals as goal

pub loop-n-init : goal.loop-n-init
loop-n-init c = λ around refs name said knows means. units_none name said c.args.edges.now.items

pub loop-n-preserved : goal.loop-n-preserved
loop-n-preserved c = λ around refs name said knows means. units_next around (units_of c.args.units.now) said means name c.loop-n.n (omega arith) c.args.edges.now.items c.loop-n.edges.items
    c.put_unit.new.edges.items (c.loop-n.invariant around refs name said knows means) (λ u v is m. c.in_ok-put_unit.ensures around refs name u v knows is m)

pub returns : goal.returns
returns c = λ around refs name said knows means. units_last around (units_of c.args.units.now) said means name c.loop-n.n (omega arith) c.args.edges.now.items c.loop-n.edges.items
    (c.loop-n.invariant around refs name said knows means)

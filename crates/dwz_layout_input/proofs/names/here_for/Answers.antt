use Rattle.std.proofs.Common.{arith}
use Rattle.dwz_unit.proofs.UnitThere.{unit_ends, unit_there}
use Rattle.dwz_unit.specs.Rows.{units_of}
use Rattle.dwz_layout_input.proofs.names.here_for.Goals as goal

pub here_of-requires : goal.here_of-requires
here_of-requires c =
    let raw = units_of c.args.units.now in
    let t = unit_there raw c.args.number c.unit-unit.result c.unit-unit.ensures in
    let within = unit_ends raw c.args.number c.unit-unit.result t in
    omega arith

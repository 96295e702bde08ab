use Rattle.std.proofs.Common.{arith}
use Rattle.dwz_unit.proofs.UnitThere.{unit_ends, unit_there}
use Rattle.dwz_unit.specs.Rows.{units_of}
use Rattle.dwz_check_labels.proofs.heres.here_in.Goals as goal

pub here_of-requires : goal.here_of-requires
here_of-requires c =
    let raw = units_of c.args.units.now in
    let t = unit_there raw c.args.n c.unit-unit.result c.unit-unit.ensures in
    let within = unit_ends raw c.args.n c.unit-unit.result t in
    omega arith

pub returns : goal.returns
returns c =
    let h = c.here_of.ensures c.unit-unit.ensures in
    record { u = h.u; is_unit = h.is_unit; here = h.here; number = h.number; within = h.within }

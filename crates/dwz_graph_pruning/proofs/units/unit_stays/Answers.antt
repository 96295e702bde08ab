use Rattle.std.proofs.Common.{refl, arith}
use Rattle.dwz_unit.proofs.UnitThere.{unit_ends, unit_there}
use Rattle.dwz_unit.specs.Rows.{units_of}
use Rattle.dwz_graph_pruning.proofs.UnitLemmas.{unit_stays_iff}
use Rattle.dwz_graph_pruning.proofs.units.unit_stays.Goals as goal

pub here_of-here-requires : goal.here_of-here-requires
here_of-here-requires c =
    let raw = units_of c.args.units.now in
    let t = unit_there raw c.args.n c.unit-unit.result c.unit-unit.ensures in
    let within = unit_ends raw c.args.n c.unit-unit.result t in
    omega arith

pub entries_stay-requires-clause-entries : goal.entries_stay-requires-clause-entries
entries_stay-requires-clause-entries c = (c.here_of-here.ensures c.unit-unit.ensures).within

pub returns : goal.returns
returns c = λ around u v is means has.
    unit_stays_iff around (units_of c.args.units.now) c.args.n c.unit-unit.result u v c.here_of-here.result is means c.unit-unit.ensures (c.here_of-here.ensures c.unit-unit.ensures)
    c.args.tables.now c.args.line has c.args.slots.now _ refl c.line_strp.ensures c.entries_stay.result c.entries_stay.ensures

use Rattle.std.proofs.Common.{◌+◌, refl}
use Rattle.dwz_unit.specs.Rows.{units_of}
use Rattle.dwz_graph_resolve.proofs.PlaceLemmas.{among_none, among_there}
use Rattle.dwz_graph_resolve.proofs.kinds.check_type.Goals as goal

pub returns-in-Some : goal.returns-in-Some
returns-in-Some c = λ own is. (
    let f = c.in-Some.ensures.found in
    among_there (units_of c.args.units.now) c.args.first c.args.end c.in-Some.field-0 (c.args.at + c.args.type_offset) own is c.requires f.0 f.1 f.2)

pub returns-in-None : goal.returns-in-None
returns-in-None c = λ own is. (among_none (units_of c.args.units.now) c.args.first c.args.end (c.args.at + c.args.type_offset) own is (c.in-None.ensures.none refl), refl)

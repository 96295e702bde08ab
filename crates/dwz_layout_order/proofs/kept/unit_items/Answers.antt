use Rattle.dwz_graph.proofs.UnitBuilding.{root_within}
use Rattle.dwz_unit.specs.Rows.{units_of}
use Rattle.dwz_layout_order.proofs.kept.unit_items.Goals as goal

pub sort_of-sort-requires-clause-there : goal.sort_of-sort-requires-clause-there
sort_of-sort-requires-clause-there c = root_within (units_of c.args.source.now.units.now) c.args.n c.unit-unit.result c.unit-unit.ensures

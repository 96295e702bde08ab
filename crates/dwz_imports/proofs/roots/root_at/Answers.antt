use Rattle.dwz_unit.specs.Rows.{units_of}
use Rattle.dwz_imports.proofs.RootPlaces.{root_shown, root_there}
use Rattle.dwz_imports.proofs.roots.root_at.Goals as goal

pub entry-requires : goal.entry-requires
entry-requires c = root_there (units_of c.args.units.now) c.args.n c.unit.result c.unit.ensures

pub returns : goal.returns
returns c = root_shown (units_of c.args.units.now) c.args.n c.unit.result c.entry.result c.unit.ensures c.entry.ensures.entry

use Rattle.dwz_unit.specs.Rows.{units_of}
use Rattle.dwz_explain.proofs.AttributeSteps.{name_is}
use Rattle.dwz_explain.proofs.ChildSteps.{entry_there, shown_there}
use Rattle.dwz_explain.proofs.attribute_at.attribute_at.Goals as goal

pub values-cursor-requires : goal.values-cursor-requires
values-cursor-requires c = entry_there (units_of c.args.units.now) c.args.entry c.requires

pub returns : goal.returns
returns c =
    let raw = units_of c.args.units.now in
    let r = shown_there raw c.args.entry (entry_there raw c.args.entry c.requires) in
    name_is raw c.args.entry c.args.index r.0 c.values-cursor.result.cursor c.values-cursor.result.pairs.now c.name_at.result r.1 c.values-cursor.ensures.read c.name_at.ensures

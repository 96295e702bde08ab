use Rattle.dwz_unit.proofs.DeclarationLemmas.{declared, decls_within}
use Rattle.dwz_unit.proofs.units.Units.declarations.Goals as goal

pub invariant_of-result : goal.invariant_of-result
invariant_of-result c = rw c.as_slice.ensures.value
    (decls_within c.self.inside.info.now c.self.inside.abbrevs.now c.self.inside.mode c.self.inside.units.items c.self.inside.entries.items c.self.inside.decls c.args.self.now c.self.invariant.0 c.self.view_is)

pub returns : goal.returns
returns c = rw c.as_slice.ensures.value
    (declared c.self.inside.info.now c.self.inside.abbrevs.now c.self.inside.mode c.self.inside.units.items c.self.inside.entries.items c.self.inside.decls c.args.self.now c.self.invariant.0 c.self.view_is)

use Rattle.std.proofs.Common.{ap, arith, length}
use Rattle.std.proofs.lemmas.List.{length-map}
use Rattle.dwz_unit.specs.Stops.{stops_of}
use Rattle.dwz_unit.proofs.DeclarationLemmas.{stops_are}
use Rattle.dwz_unit.proofs.ShownLemmas.{entries_are}
use Rattle.dwz_unit.proofs.ThereLemmas.{EntryThere, decl_within, entry_there}
use Rattle.dwz_unit.proofs.units.Units.stops.Goals as goal
use Rattle.dwz_unit.proofs.units.Units.stops.Goals.{After-index}

-- the entry, and what is kept of it
there : (c : After-index) → EntryThere c.self.inside.info.now c.self.inside.decls c.args.self.now c.args.i c.index.result.now
there c = entry_there c.self.inside.info.now c.self.inside.abbrevs.now c.self.inside.mode c.self.inside.units.items c.self.inside.entries.items c.self.inside.decls c.args.self.now c.self.invariant.0 c.self.view_is c.args.i c.index.result.now
    (omega (arith, entries_are c.self.inside.info.now c.self.inside.abbrevs.now c.self.inside.mode c.self.inside.units.items c.self.inside.entries.items c.self.inside.decls c.args.self.now c.self.invariant.0 c.self.view_is, c.requires)) c.index.ensures

pub index-requires : goal.index-requires
index-requires c =
    let are = entries_are c.self.inside.info.now c.self.inside.abbrevs.now c.self.inside.mode c.self.inside.units.items c.self.inside.entries.items c.self.inside.decls c.args.self.now c.self.invariant.0 c.self.view_is in
    omega (arith, are, c.requires, c.self.inside.entries.ok.0)

pub get-requires : goal.get-requires
get-requires c =
    let e = there (goal.at.get-requires c).After-index in
    omega (arith, decl_within c.self.inside.info.now c.self.inside.decls c.args.self.now c.args.i c.index.result.now e, ap length c.self.invariant.2, length-map c.self.inside.decls stops_of)

pub returns-clause-stops : goal.returns-clause-stops
returns-clause-stops c =
    let e = there (goal.at.returns-clause-stops c).After-index in
    stops_are c.self.inside.info.now c.self.inside.decls c.args.self.now c.args.i c.index.result.now e c.self.inside.stops c.get.result.now c.known_values-cursor.result.pairs.now c.self.invariant.2 c.get.ensures
    c.known_values-cursor.ensures.pairs

use Rattle.std.proofs.Common.{ap, arith, length}
use Rattle.std.proofs.lemmas.List.{length-map}
use Rattle.dwz_unit.specs.Named.{named_count}
use Rattle.dwz_unit.proofs.DeclarationLemmas.{named_is}
use Rattle.dwz_unit.proofs.ShownLemmas.{entries_are}
use Rattle.dwz_unit.proofs.ThereLemmas.{EntryThere, decl_within, entry_there}
use Rattle.dwz_unit.proofs.units.Units.named_count.Goals as goal
use Rattle.dwz_unit.proofs.units.Units.named_count.Goals.{After-index-row}

-- the entry, and what is kept of it
there : (c : After-index-row) → EntryThere c.self.inside.info.now c.self.inside.decls c.args.self.now c.args.i c.index-row.result.now
there c = entry_there c.self.inside.info.now c.self.inside.abbrevs.now c.self.inside.mode c.self.inside.units.items c.self.inside.entries.items c.self.inside.decls c.args.self.now c.self.invariant.0 c.self.view_is c.args.i c.index-row.result.now
    (omega (arith, entries_are c.self.inside.info.now c.self.inside.abbrevs.now c.self.inside.mode c.self.inside.units.items c.self.inside.entries.items c.self.inside.decls c.args.self.now c.self.invariant.0 c.self.view_is, c.requires)) c.index-row.ensures

pub index-row-requires : goal.index-row-requires
index-row-requires c =
    let are = entries_are c.self.inside.info.now c.self.inside.abbrevs.now c.self.inside.mode c.self.inside.units.items c.self.inside.entries.items c.self.inside.decls c.args.self.now c.self.invariant.0 c.self.view_is in
    omega (arith, are, c.requires, c.self.inside.entries.ok.0)

pub index-requires : goal.index-requires
index-requires c =
    let e = there (goal.at.index-requires c).After-index-row in
    omega (arith, decl_within c.self.inside.info.now c.self.inside.decls c.args.self.now c.args.i c.index-row.result.now e, ap length c.self.invariant.1, length-map c.self.inside.decls named_count, c.self.inside.named.ok.0)

pub returns : goal.returns
returns c =
    let e = there (goal.at.returns c).After-index-row in
    named_is c.self.inside.info.now c.self.inside.decls c.args.self.now c.args.i c.index-row.result.now e c.self.inside.named.items c.index.result.now c.self.invariant.1 c.index.ensures

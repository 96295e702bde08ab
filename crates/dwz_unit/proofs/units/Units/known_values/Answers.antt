use Rattle.std.proofs.Common.{ap, sym, ◌∙◌, arith}
use Rattle.dwz_bytes.specs.Input.{Input}
use Rattle.dwz_bytes.specs.Reading.{uleb_at}
use Rattle.dwz_unit.proofs.ShownLemmas.{entries_are}
use Rattle.dwz_unit.proofs.ThereLemmas.{EntryThere, code_is, decl_within, entry_there, got_is, pairs_by_row, plain_are, short_there, values_are}
use Rattle.dwz_unit.proofs.units.Units.known_values.Goals as goal
use Rattle.dwz_unit.proofs.units.Units.known_values.Goals.{After-index-row}

-- the entry, and what is kept of it
there : (c : After-index-row) → EntryThere c.self.inside.info.now c.self.inside.decls c.args.self.now c.args.i c.index-row.result.now
there c = entry_there c.self.inside.info.now c.self.inside.abbrevs.now c.self.inside.mode c.self.inside.units.items c.self.inside.entries.items c.self.inside.decls c.args.self.now c.self.invariant.0 c.self.view_is c.args.i c.index-row.result.now
    (omega (arith, entries_are c.self.inside.info.now c.self.inside.abbrevs.now c.self.inside.mode c.self.inside.units.items c.self.inside.entries.items c.self.inside.decls c.args.self.now c.self.invariant.0 c.self.view_is, c.requires)) c.index-row.ensures

pub index-row-requires : goal.index-row-requires
index-row-requires c =
    let are = entries_are c.self.inside.info.now c.self.inside.abbrevs.now c.self.inside.mode c.self.inside.units.items c.self.inside.entries.items c.self.inside.decls c.args.self.now c.self.invariant.0 c.self.view_is in
    omega (arith, are, c.requires, c.self.inside.entries.ok.0)

pub new-cursor-requires : goal.new-cursor-requires
new-cursor-requires c =
    let e = there (goal.at.new-cursor-requires c).After-index-row in
    let place = e.place in
    omega arith

pub unreachable-requires : goal.unreachable-requires
unreachable-requires c =
    let e = there (goal.at.unreachable-requires c).After-index-row in
    code_is c.self.inside.info.now c.self.inside.decls c.args.self.now c.args.i c.index-row.result.now e c.in_default.field-0 (ap (λ (q : Input). uleb_at q) (sym c.new-cursor.ensures) ∙ c.in_default.ensures.0)

pub get-requires : goal.get-requires
get-requires c =
    let e = there (goal.at.get-requires c).After-index-row in
    decl_within c.self.inside.info.now c.self.inside.decls c.args.self.now c.args.i c.index-row.result.now e

pub returns-clause-read : goal.returns-clause-read
returns-clause-read c =
    let e = there (goal.at.returns-clause-read c).After-index-row in
    values_are c.self.inside.info.now c.self.inside.decls c.args.self.now c.args.i c.index-row.result.now e c.in-Ok._code c.uleb.new.self c.get.result.now
    (ap (λ (q : Input). uleb_at q) (sym c.new-cursor.ensures) ∙ c.in-Ok.ensures) (got_is c.self.inside.info.now c.self.inside.decls c.args.self.now c.args.i c.index-row.result.now e c.get.result.now c.get.ensures)

pub returns-clause-pairs : goal.returns-clause-pairs
returns-clause-pairs c =
    let e = there (goal.at.returns-clause-pairs c).After-index-row in
    pairs_by_row c.self.inside.info.now c.self.inside.decls c.args.self.now c.args.i c.index-row.result.now e c.get.result.now c.get.ensures

pub returns-clause-plain : goal.returns-clause-plain
returns-clause-plain c =
    let e = there (goal.at.returns-clause-plain c).After-index-row in
    plain_are c.self.inside.info.now c.self.inside.decls c.args.self.now c.args.i c.index-row.result.now e c.get.result.now (got_is c.self.inside.info.now c.self.inside.decls c.args.self.now c.args.i c.index-row.result.now e c.get.result.now c.get.ensures)

pub returns-clause-short : goal.returns-clause-short
returns-clause-short c =
    let e = there (goal.at.returns-clause-short c).After-index-row in
    short_there c.self.inside.info.now c.self.inside.decls c.args.self.now c.args.i c.index-row.result.now e c.in-Ok._code c.uleb.new.self
    (ap (λ (q : Input). uleb_at q) (sym c.new-cursor.ensures) ∙ c.in-Ok.ensures) c.self.invariant.0.short

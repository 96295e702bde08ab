use Rattle.std.proofs.Common.{ap, arith, sym}
use Rattle.std.specs.Option.{option_map}
use Rattle.dwz_unit.specs.Rows.{entry_shown}
use Rattle.dwz_layout.proofs.KnownLemmas.{entry_none, entry_some, file_found}
use Rattle.dwz_layout.proofs.known.EntryTable.entry.Goals as goal

pub returns-then-row-entries-clause-entry : goal.returns-then-row-entries-clause-entry
returns-then-row-entries-clause-entry c =
    let f = c.in_ok-file.file.now in
    let found = file_found c.deref.result.now c.args.self.now.files.items c.args.row.file f c.deref.ensures.value c.in_ok-file.ensures.lookup.0 c.in_ok-file.ensures.lookup.1 in
    sym (ap (option_map entry_shown) (entry_none c.args.self.now c.args.row f found (omega (arith, c.entries.ensures, c.if-row-entries.true))))

pub returns-clause-entry : goal.returns-clause-entry
returns-clause-entry c =
    let f = c.in_ok-file.file.now in
    let found = file_found c.deref.result.now c.args.self.now.files.items c.args.row.file f c.deref.ensures.value c.in_ok-file.ensures.lookup.0 c.in_ok-file.ensures.lookup.1 in
    entry_some c.args.self.now c.args.row f found c.entry.result c.entry.ensures.entry

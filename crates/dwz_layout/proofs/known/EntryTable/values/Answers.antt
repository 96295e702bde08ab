use Rattle.std.proofs.Common.{arith}
use Rattle.dwz_layout.proofs.KnownLemmas.{entry_none, file_found, has_values}
use Rattle.dwz_layout.proofs.known.EntryTable.values.Goals as goal

pub returns-then-row-entries-clause-values : goal.returns-then-row-entries-clause-values
returns-then-row-entries-clause-values c =
    let f = c.in_ok-file.file.now in
    let found = file_found c.deref.result.now c.args.self.now.files.items c.args.row.file f c.deref.ensures.value c.in_ok-file.ensures.lookup.0 c.in_ok-file.ensures.lookup.1 in
    entry_none c.args.self.now c.args.row f found (omega (arith, c.entries.ensures, c.if-row-entries.true))

pub returns-clause-values : goal.returns-clause-values
returns-clause-values c =
    let f = c.in_ok-file.file.now in
    let found = file_found c.deref.result.now c.args.self.now.files.items c.args.row.file f c.deref.ensures.value c.in_ok-file.ensures.lookup.0 c.in_ok-file.ensures.lookup.1 in
    has_values c.args.self.now c.args.row f found c.values.result.pairs.now c.values.result.cursor (omega (arith, c.entries.ensures, c.if-row-entries.false)) c.values.ensures.read

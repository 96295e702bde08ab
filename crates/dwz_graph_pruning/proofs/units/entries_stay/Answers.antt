use Rattle.std.proofs.Common.{sym, ◌∙◌, arith}
use Rattle.dwz_graph_pruning.specs.Stays.{row_stays}
use Rattle.dwz_graph_pruning.proofs.RowLemmas.{between_all, between_fails, between_more, between_none}
use Rattle.dwz_unit.proofs.RowsFound.{row_there}
use Rattle.dwz_unit.specs.Rows.{rows_of, units_of}
use Rattle.dwz_graph_pruning.proofs.units.entries_stay.Goals as goal

pub loop-i-init : goal.loop-i-init
loop-i-init c = λ rows after found count. between_all (row_stays c.args.slots.now c.args.known.now) (rows_of (units_of c.args.units.now)) c.args.first c.args.end rows after found count

pub returns-then-not-entry_stays : goal.returns-then-not-entry_stays
returns-then-not-entry_stays c = λ rows after found count. (
    let raw = units_of c.args.units.now in
    let r = row_there raw c.loop-i.i (omega (arith, c.loop-i-test.true, c.requires.entries)) in
    between_fails (row_stays c.args.slots.now c.args.known.now) (rows_of raw) c.loop-i.i c.args.end r.0 rows c.loop-i-test.true r.1 (sym (c.entry_stays.ensures r.0 r.1) ∙ c.if-not-entry_stays.true)
    (c.loop-i.invariant rows after found count))

pub loop-i-preserved : goal.loop-i-preserved
loop-i-preserved c = λ rows after found count. (
    let raw = units_of c.args.units.now in
    let r = row_there raw c.loop-i.i (omega (arith, c.loop-i-test.true, c.requires.entries)) in
    between_more (row_stays c.args.slots.now c.args.known.now) (rows_of raw) c.loop-i.i c.args.end r.0 rows c.loop-i-test.true r.1 (sym (c.entry_stays.ensures r.0 r.1) ∙ c.if-not-entry_stays.false)
    (c.loop-i.invariant rows after found count))

pub returns : goal.returns
returns c = λ rows after found count.
    between_none (row_stays c.args.slots.now c.args.known.now) (rows_of (units_of c.args.units.now)) c.loop-i.i c.args.end rows (omega (arith, c.loop-i-test.false))
    (c.loop-i.invariant rows after found count)

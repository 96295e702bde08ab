use Rattle.std.proofs.Common.{◌≡◌, ◌<◌, ◌+◌, pos, ℕ, List, Some, length, slice_get, subst, sym, arith}
use Rattle.std.proofs.lemmas.Bool.{eq-eqb, ne_eqb}
use Rattle.dwz_def_reading.specs.Input.{Input}
use Rattle.dwz_model.specs.declared.place.Pair.{Pair}
use Rattle.dwz_def_reading.specs.Units.{RawUnit, entries_in}
use Rattle.dwz_unit.proofs.RowsFound.{row_there}
use Rattle.dwz_unit.specs.Rows.{EntryRow, attr_count, rows_of, units_of}
use Rattle.dwz_unit.specs.Values.{Reads}
use Rattle.dwz_graph_view.proofs.AttrSteps.{Seeks, has_pairs, pair_at, seeks_count, seeks_end, seeks_found, seeks_pass, values_many}
use Rattle.dwz_graph_view.proofs.attr_forms.find_attr.Goals.{then-pairs-k-ne-DW_AT_SIBLING+else-left-eq0, else-pairs-k-ne-DW_AT_SIBLING}
use Rattle.dwz_graph_view.proofs.attr_forms.find_attr.Goals as goal

many : (raw : List RawUnit) (entry count : ℕ) (pairs : List Pair) (at : Input) → entry < entries_in raw → attr_count raw entry ≡ count
    → ((r : EntryRow) → slice_get (rows_of raw) entry ≡ Some r → Reads r.entry.at pairs at r.entry.attrs) → length pairs ≡ count
many raw entry count pairs at lt is read =
    let row = row_there raw entry lt in
    values_many raw entry pairs 0 row.0 count (has_pairs raw entry pairs at row.0 read row.1) is

pub bounds-pairs-k : goal.bounds-pairs-k
bounds-pairs-k c =
    let same = many (units_of c.args.units.now) c.args.entry c.entry-count.result.attrs c.values-cursor.result.pairs.now c.values-cursor.result.cursor c.requires c.entry-count.ensures.attrs c.values-cursor.ensures.read in
    omega (arith, same, c.loop-k-test.true)

pub returns-then-left-eq0-clause-found : goal.returns-then-left-eq0-clause-found
returns-then-left-eq0-clause-found c =
    let raw = units_of c.args.units.now in
    let entry = c.args.entry in
    let pairs = c.values-cursor.result.pairs.now in
    let same = many raw entry c.entry-count.result.attrs pairs c.values-cursor.result.cursor c.requires c.entry-count.ensures.attrs c.values-cursor.ensures.read in
    let got = pair_at pairs c.loop-k.k _ (omega (arith, same, c.loop-k-test.true)) in (
      omega (arith, c.entry-count.ensures.attrs, c.loop-k-test.true),
      λ row found. seeks_found raw entry pairs c.args.index c.loop-k.k c.loop-k.left _ got (ne_eqb _ 1 c.if-pairs-k-ne-DW_AT_SIBLING.true) c.if-left-eq0.true c.loop-k.invariant row
          (has_pairs raw entry pairs c.values-cursor.result.cursor row c.values-cursor.ensures.read found),
    )

pub loop-k-preserved : goal.loop-k-preserved
loop-k-preserved c =
    let raw = units_of c.args.units.now in
    let entry = c.args.entry in
    let pairs = c.values-cursor.result.pairs.now in
    let same = many raw entry c.entry-count.result.attrs pairs c.values-cursor.result.cursor c.requires c.entry-count.ensures.attrs c.values-cursor.ensures.read in
    let got = pair_at pairs c.loop-k.k (record { name = 0; form = 0; constant = pos 0 }) (omega (arith, same, c.loop-k-test.true)) in
    elim c.if-pairs-k-ne-DW_AT_SIBLING.branch [
      | then-pairs-k-ne-DW_AT_SIBLING+else-left-eq0 w ↦ subst (Seeks raw entry pairs c.args.index (c.loop-k.k + 1)) (sym w.left-is)
          (seeks_count raw entry pairs c.args.index c.loop-k.k c.loop-k.left _ got (ne_eqb _ 1 w.if-pairs-k-ne-DW_AT_SIBLING.true) (let some = w.if-left-eq0.false in omega arith) c.loop-k.invariant)
      | else-pairs-k-ne-DW_AT_SIBLING w ↦ subst (Seeks raw entry pairs c.args.index (c.loop-k.k + 1)) (sym w.left-is)
          (seeks_pass raw entry pairs c.args.index c.loop-k.k c.loop-k.left _ got (eq-eqb _ 1 w.if-pairs-k-ne-DW_AT_SIBLING.false) c.loop-k.invariant)
    ]

pub returns-clause-none : goal.returns-clause-none
returns-clause-none c = λ e row found. (
    let raw = units_of c.args.units.now in
    let entry = c.args.entry in
    let pairs = c.values-cursor.result.pairs.now in
    let same = many raw entry c.entry-count.result.attrs pairs c.values-cursor.result.cursor c.requires c.entry-count.ensures.attrs c.values-cursor.ensures.read in
    seeks_end raw entry pairs c.args.index c.loop-k.k c.loop-k.left (omega (arith, same, c.loop-k-test.false)) c.loop-k.invariant row
    (has_pairs raw entry pairs c.values-cursor.result.cursor row c.values-cursor.ensures.read found))

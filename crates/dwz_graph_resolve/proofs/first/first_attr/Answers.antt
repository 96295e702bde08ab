use Rattle.std.proofs.Common.{◌≡◌, ◌<◌, length, refl, sym, ap, ◌∙◌, arith}
use Rattle.dwz_model.specs.declared.place.Pair.{Pair}
use Rattle.dwz_unit.specs.declared.rows.RawEntry.{RawEntry as EntryOfCode}
use Rattle.dwz_unit.specs.Rows.{attr_view, units_of}
use Rattle.dwz_unit.proofs.ReadsLemmas.{reads_count}
use Rattle.dwz_graph_resolve.proofs.RootLemmas.{first_here, first_none, first_passed, pair_is}
use Rattle.dwz_unit.proofs.RowsFound.{attr_there, row_is, row_there}
use Rattle.dwz_graph_resolve.proofs.first.first_attr.Goals as goal

pub loop-k-init : goal.loop-k-init
loop-k-init c = λ row found. refl

pub bounds-pairs-k : goal.bounds-pairs-k
bounds-pairs-k c =
    let r = row_there (units_of c.args.units.now) c.args.entry c.requires in
    let is = row_is (units_of c.args.units.now) c.args.entry c.entry-count.result r.0 c.entry-count.ensures.entry r.1 in
    let count : length r.0.entry.attrs ≡ c.entry-count.result.attrs = ap (λ (e : EntryOfCode). e.attrs) is in
    let many = reads_count r.0.entry.at c.values.result.pairs.now c.values.result.cursor r.0.entry.attrs (c.values.ensures.read r.0 r.1) in
    omega (arith, count, many, c.loop-k-test.true)

pub returns-then-pair-name-clause-first : goal.returns-then-pair-name-clause-first
returns-then-pair-name-clause-first c = λ row found. (
    let there = attr_there (units_of c.args.units.now) c.args.entry c.loop-k.k row (attr_view c.attr.result) found c.attr.ensures.attr in
    let same = pair_is row.entry.at c.values.result.pairs.now c.values.result.cursor row.entry.attrs c.loop-k.k _ (attr_view c.attr.result) (c.values.ensures.read row found) there in
    sym (first_here c.args.name row.entry.attrs c.loop-k.k (attr_view c.attr.result) there (ap (λ (p : Pair). p.name) (sym same) ∙ c.if-pair-name.true) (c.loop-k.invariant row found)))

pub loop-k-preserved : goal.loop-k-preserved
loop-k-preserved c = λ row found. (
    let is = row_is (units_of c.args.units.now) c.args.entry c.entry-count.result row c.entry-count.ensures.entry found in
    let count : length row.entry.attrs ≡ c.entry-count.result.attrs = ap (λ (e : EntryOfCode). e.attrs) is in
    let lt : c.loop-k.k < length row.entry.attrs = omega (arith, count, c.loop-k-test.true) in
    first_passed c.args.name row.entry.at c.values.result.pairs.now c.values.result.cursor row.entry.attrs c.loop-k.k _ lt (c.values.ensures.read row found)
    c.if-pair-name.false (c.loop-k.invariant row found))

pub returns-clause-first : goal.returns-clause-first
returns-clause-first c = λ row found. (
    let is = row_is (units_of c.args.units.now) c.args.entry c.entry-count.result row c.entry-count.ensures.entry found in
    let count : length row.entry.attrs ≡ c.entry-count.result.attrs = ap (λ (e : EntryOfCode). e.attrs) is in
    sym (first_none c.args.name row.entry.attrs c.loop-k.k (omega arith) (c.loop-k.invariant row found)))

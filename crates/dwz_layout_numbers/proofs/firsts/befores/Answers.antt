use Rattle.std.proofs.Common.{◌+◌, ap, arith, length, refl}
use Rattle.std.proofs.lemmas.List.{length-map}
use Rattle.dwz_unit.specs.Rows.{units_of}
use Rattle.dwz_unit.proofs.DeclarationLemmas.{numbers_length}
use Rattle.dwz_layout_numbers.specs.Befores.{counts_of}
use Rattle.dwz_layout_numbers.proofs.BeforeLemmas.{Next, counted_end, counted_next, files_few, next, texts_few}
use Rattle.dwz_layout_numbers.proofs.firsts.befores.Goals as goal
use Rattle.dwz_layout_numbers.proofs.firsts.befores.Goals.{After-index-own}

-- what the next entry has
own : (c : After-index-own) → Next (units_of c.args.units.now) c.loop-i.i c.index-own.result.now
own c = next (units_of c.args.units.now) c.loop-i.i c.entry-count.result.attrs c.number.result c.declarations-declarations.result c.in_ok-counts.counts.items c.index-own.result.now
    (omega (arith, c.loop-i-test.true, c.entries-i-end.ensures)) c.entry-count.ensures.attrs (omega arith) c.declarations-declarations.ensures c.number.ensures.number c.in_ok-counts.ensures
    c.index-own.ensures

pub number-requires : goal.number-requires
number-requires c = omega (arith, c.loop-i-test.true, c.entries-i-end.ensures, numbers_length (units_of c.args.units.now) c.declarations-declarations.result c.declarations-declarations.ensures)

pub index-own-requires : goal.index-own-requires
index-own-requires c = omega (arith, c.number.ensures.within, ap length c.in_ok-counts.ensures, length-map c.declarations-declarations.result.pairs counts_of, c.in_ok-counts.counts.ok.0)

pub overflow_add-before : goal.overflow_add-before
overflow_add-before c =
    let n = own (goal.at.overflow_add-before c).After-index-own in
    omega (arith, c.loop-i.invariant.texts, texts_few (units_of c.args.units.now) c.loop-i.i c.index-own.result.now n, c.loop-i-test.true, c.entries-i-end.type_inv)

pub overflow_add-before-in-loop-i : goal.overflow_add-before-in-loop-i
overflow_add-before-in-loop-i c =
    let n = own (goal.at.overflow_add-before-in-loop-i c).After-index-own in
    omega (arith, c.loop-i.invariant.files, files_few (units_of c.args.units.now) c.loop-i.i c.index-own.result.now n, c.loop-i-test.true, c.entries-i-end.type_inv)

pub loop-i-preserved : goal.loop-i-preserved
loop-i-preserved c =
    let now = c.index-own.result.now in
    let n = own (goal.at.loop-i-preserved c).After-index-own in
    counted_next (units_of c.args.units.now) c.loop-i.i c.loop-i.before (record { texts = c.loop-i.before.texts + now.texts; files = c.loop-i.before.files + now.files }) c.loop-i.befores.items
    c.push.new.self.items now
    (omega (arith, c.loop-i-test.true, c.entries-i-end.ensures)) c.loop-i.invariant n refl c.in_ok-push.ensures.items

pub returns : goal.returns
returns c = counted_end (units_of c.args.units.now) c.loop-i.i c.loop-i.before c.loop-i.befores.items c.loop-i.invariant (omega (arith, c.loop-i-test.false, c.entries-i-end.ensures))

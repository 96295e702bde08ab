use Rattle.std.proofs.Common.{[], pos, subst, sym}
use Rattle.dwz_model.specs.declared.place.Pair.{Pair}
use Rattle.dwz_layout.specs.declared.known.ValueCounts.{ValueCounts}
use Rattle.dwz_layout.specs.Attributes.{here_view}
use Rattle.dwz_layout.proofs.LeftLemmas.{left_readable}
use Rattle.dwz_layout.proofs.PlainLemmas.{plain_none}
use Rattle.dwz_layout.proofs.SizeLemmas.{Measured, measured_more, measured_names, measured_none, measured_size, nothing_names, nothing_sized}
use Rattle.dwz_layout.proofs.sizes.measure_row.Goals as goal

abbrev no_pair : Pair
no_pair = record { name = 0; form = 0; constant = pos 0 }

pub returns-in_default-clause-pairs : goal.returns-in_default-clause-pairs
returns-in_default-clause-pairs c = nothing_names c.args.known.now (here_view c.args.here) c.args.row [] c.args.room.now.pairs.items c.requires c.in_default.ensures.values

pub returns-in_default-clause-size : goal.returns-in_default-clause-size
returns-in_default-clause-size c = nothing_sized c.args.known.now (here_view c.args.here) c.args.row [] c.in_default.ensures.values

pub returns-in_default-clause-plain : goal.returns-in_default-clause-plain
returns-in_default-clause-plain c = plain_none c.args.room.now.pairs.items c.requires

pub loop-pair-init : goal.loop-pair-init
loop-pair-init c =
    let k = c.args.known.now in
    let here = here_view c.args.here in
    let pairs = c.in-Some.field-0.pairs.now in
    subst (λ (f : ValueCounts). Measured k here c.args.row pairs 0 c.in-Some.field-0.cursor f c.args.room.now.pairs.items 0) (sym c.firsts-next.ensures)
    (measured_none k here c.args.row pairs c.in-Some.field-0.cursor c.args.room.now.pairs.items c.in-Some.ensures.values c.requires)

pub measure_by_form-requires-clause-read : goal.measure_by_form-requires-clause-read
measure_by_form-requires-clause-read c =
    let m = c.loop-pair.invariant in
    left_readable c.args.known.now (here_view c.args.here) c.args.row c.in-Some.field-0.pairs.now c.loop-pair.pair-index no_pair c.loop-pair.cursor c.loop-pair.next m.done m.left c.loop-pair-test.true

pub measure_by_form-requires-clause-plain : goal.measure_by_form-requires-clause-plain
measure_by_form-requires-clause-plain c = c.in-Some.ensures.plain c.loop-pair.pair-index no_pair c.loop-pair-test.true

pub measure_by_form-requires-clause-room : goal.measure_by_form-requires-clause-room
measure_by_form-requires-clause-room c = c.loop-pair.invariant.plain

pub loop-pair-preserved : goal.loop-pair-preserved
loop-pair-preserved c =
    let x = c.in_ok-one.ensures in
    measured_more c.args.known.now (here_view c.args.here) c.args.row c.in-Some.field-0.pairs.now c.loop-pair.pair-index no_pair c.loop-pair.cursor c.measure_by_form.new.cursor c.loop-pair.next
    c.loop-pair.room.pairs.items c.loop-pair.size
    c.loop-pair.invariant c.loop-pair-test.true c.measure_by_form.new.next c.measure_by_form.new.room.pairs.items c.in_ok-one.one c.in_ok-size.size
    (x.read, x.next, x.pairs, x.size) c.in_ok-size.ensures x.plain

pub returns-clause-pairs : goal.returns-clause-pairs
returns-clause-pairs c =
    measured_names c.args.known.now (here_view c.args.here) c.args.row c.in-Some.field-0.pairs.now c.loop-pair.pair-index c.loop-pair.cursor c.loop-pair.next c.loop-pair.room.pairs.items
    c.loop-pair.size c.loop-pair.invariant c.loop-pair-test.false

pub returns-clause-size : goal.returns-clause-size
returns-clause-size c =
    measured_size c.args.known.now (here_view c.args.here) c.args.row c.in-Some.field-0.pairs.now c.loop-pair.pair-index c.loop-pair.cursor c.loop-pair.next c.loop-pair.room.pairs.items
    c.loop-pair.size c.loop-pair.invariant c.loop-pair-test.false

pub returns-clause-plain : goal.returns-clause-plain
returns-clause-plain c = c.loop-pair.invariant.plain

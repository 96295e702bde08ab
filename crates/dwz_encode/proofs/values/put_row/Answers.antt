use Rattle.std.proofs.Common.{[], pos, subst, sym}
use Rattle.dwz_model.specs.declared.place.Pair.{Pair}
use Rattle.dwz_layout.specs.declared.known.ValueCounts.{ValueCounts}
use Rattle.dwz_layout.specs.Attributes.{here_view}
use Rattle.dwz_layout.proofs.LeftLemmas.{left_readable}
use Rattle.dwz_encode.specs.Views.{numbers_view}
use Rattle.dwz_encode.proofs.ValueLemmas.{PutSoFar, put_nothing, so_far_end, so_far_more, so_far_none}
use Rattle.dwz_encode.proofs.values.put_row.Goals as goal

abbrev no_pair : Pair
no_pair = record { name = 0; form = 0; constant = pos 0 }

pub returns-in_default : goal.returns-in_default
returns-in_default c = put_nothing (numbers_view c.args.numbers) c.args.known.now (here_view c.args.here) c.args.row [] c.args.out.now.items c.in_default.ensures.values

pub loop-pair-init : goal.loop-pair-init
loop-pair-init c =
    let n = numbers_view c.args.numbers in
    let k = c.args.known.now in
    let here = here_view c.args.here in
    let pairs = c.in-Some.field-0.pairs.now in
    let old = c.args.out.now.items in
    subst (λ (f : ValueCounts). PutSoFar n k here c.args.row pairs 0 c.in-Some.field-0.cursor f old old) (sym c.firsts-next.ensures)
    (so_far_none n k here c.args.row pairs old c.in-Some.field-0.cursor c.in-Some.ensures.values)

pub put_by_form-requires : goal.put_by_form-requires
put_by_form-requires c =
    let m = c.loop-pair.invariant in
    left_readable c.args.known.now (here_view c.args.here) c.args.row c.in-Some.field-0.pairs.now c.loop-pair.pair-index no_pair c.loop-pair.cursor c.loop-pair.next m.done m.left c.loop-pair-test.true

pub loop-pair-preserved : goal.loop-pair-preserved
loop-pair-preserved c =
    let x = c.in_ok-put_by_form.ensures in
    so_far_more (numbers_view c.args.numbers) c.args.known.now (here_view c.args.here) c.args.row c.in-Some.field-0.pairs.now c.args.out.now.items c.loop-pair.pair-index no_pair c.loop-pair.cursor
    c.put_by_form.new.cursor c.loop-pair.next c.loop-pair.out.items
    c.loop-pair.invariant c.loop-pair-test.true c.put_by_form.new.next c.put_by_form.new.out.items (x.read, x.next, x.bytes)

pub returns : goal.returns
returns c =
    so_far_end (numbers_view c.args.numbers) c.args.known.now (here_view c.args.here) c.args.row c.in-Some.field-0.pairs.now c.args.out.now.items c.loop-pair.pair-index c.loop-pair.cursor
    c.loop-pair.next c.loop-pair.out.items c.loop-pair.invariant
    c.loop-pair-test.false

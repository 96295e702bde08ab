use Rattle.std.proofs.Common.{refl, arith}
use Rattle.dwz_expand_sources.specs.declared.sources.SourceRange.{SourceRange}
use Rattle.dwz_expand_sources.proofs.NotedLemmas.{range_room, ranges_begin, ranges_end, ranges_next}
use Rattle.dwz_expand_sources.proofs.rows.note_entries.Goals as goal

none : SourceRange
none = record { first = 0; end = 0 }

pub loop-range-init : goal.loop-range-init
loop-range-init c = ranges_begin c.args.unit c.args.number c.args.root c.args.ranges.now c.args.row.now _ refl

pub note_range-at-requires-clause-few : goal.note_range-at-requires-clause-few
unfolding none
note_range-at-requires-clause-few c =
    let room = range_room c.args.unit c.args.number c.args.root c.args.ranges.now c.args.row.now c.loop-range.at c.loop-range.range-index c.loop-range.row none c.loop-range.invariant c.loop-range-test.true in
    let few = c.requires.few in
    omega arith

pub loop-range-preserved : goal.loop-range-preserved
unfolding none
loop-range-preserved c =
    ranges_next c.args.unit c.args.number c.args.root c.args.ranges.now c.args.row.now c.loop-range.at c.note_range-at.result c.loop-range.range-index c.loop-range.row c.note_range-at.new.row none
    c.loop-range.invariant c.loop-range-test.true c.note_range-at.ensures.row c.note_range-at.ensures.behind

pub returns : goal.returns
returns c = ranges_end c.args.unit c.args.number c.args.root c.args.ranges.now c.args.row.now c.loop-range.at c.loop-range.range-index c.loop-range.row c.loop-range.invariant c.loop-range-test.false

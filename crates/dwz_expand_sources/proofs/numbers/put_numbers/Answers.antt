use Rattle.std.proofs.Common.{◌+◌, arith}
use Rattle.dwz_expand_sources.specs.declared.sources.SourceRange.{SourceRange}
use Rattle.dwz_expand_sources.proofs.NumberSteps.{range_on, range_room, ranges_behind, ranges_end}
use Rattle.dwz_expand_sources.proofs.numbers.put_numbers.Goals as goal

none : SourceRange
none = record { first = 0; end = 0 }

pub overflow_add-at : goal.overflow_add-at
unfolding none
overflow_add-at c =
    let room = range_room c.args.ranges.now c.args.from c.args.numbers.now.items c.loop-range.numbers.items c.loop-range.range-index c.loop-range.at none c.loop-range.invariant c.loop-range-test.true in
    let few = c.requires in
    let count = c.count_of-at.ensures in
    omega arith

pub loop-range-preserved : goal.loop-range-preserved
unfolding none
loop-range-preserved c =
    range_on c.args.ranges.now c.args.from c.args.numbers.now.items c.loop-range.numbers.items c.push.new.self.items c.loop-range.range-index c.loop-range.at (c.loop-range.at + c.count_of-at.result) none
    c.loop-range.invariant c.loop-range-test.true c.in_ok-push.ensures.items (let count = c.count_of-at.ensures in omega arith)

pub returns-clause-numbers : goal.returns-clause-numbers
returns-clause-numbers c = ranges_end c.args.ranges.now c.args.from c.args.numbers.now.items c.loop-range.numbers.items c.loop-range.range-index c.loop-range.at c.loop-range.invariant (omega arith)

pub returns-clause-behind : goal.returns-clause-behind
returns-clause-behind c = ranges_behind c.args.ranges.now c.args.from c.args.numbers.now.items c.loop-range.numbers.items c.loop-range.range-index c.loop-range.at c.loop-range.invariant (omega arith)

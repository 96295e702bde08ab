use Rattle.std.proofs.Common.{◌++◌}
use Rattle.dwz_layout.specs.Attributes.{here_view}
use Rattle.dwz_encode.specs.Views.{numbers_view}
use Rattle.dwz_encode.proofs.ByteLemmas.{entries_end, entries_left, entries_over, entries_step}
use Rattle.dwz_encode.proofs.units.put_entries.Goals as goal

pub returns-in_default : goal.returns-in_default
returns-in_default c =
    let k = c.args.known.now in
    let here = here_view c.args.here in
    let n = numbers_view c.args.numbers in
    entries_over k here n c.args.codes.now c.loop-code.code-index c.loop-code.walk c.loop-code.out.items (c.args.out.now.items ++ entries_left k here n c.args.codes.now c.args.walk.now)
    c.in_default.ensures c.loop-code.invariant

pub loop-code-preserved : goal.loop-code-preserved
loop-code-preserved c =
    let k = c.args.known.now in
    let here = here_view c.args.here in
    let n = numbers_view c.args.numbers in
    entries_step k here n c.args.codes.now c.loop-code.code-index c.in-Some.entry c.loop-code.walk c.next.new.self c.loop-code.out.items c.put_entry.new.out.items
    (c.args.out.now.items ++ entries_left k here n c.args.codes.now c.args.walk.now)
    c.loop-code-test.true c.in-Some.ensures c.in_ok-put_entry.ensures c.loop-code.invariant

pub returns : goal.returns
returns c =
    let k = c.args.known.now in
    let here = here_view c.args.here in
    let n = numbers_view c.args.numbers in
    entries_end k here n c.args.codes.now c.loop-code.code-index c.loop-code.walk c.loop-code.out.items (c.args.out.now.items ++ entries_left k here n c.args.codes.now c.args.walk.now)
    c.loop-code-test.false c.loop-code.invariant

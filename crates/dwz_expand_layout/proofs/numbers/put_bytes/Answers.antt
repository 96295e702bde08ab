use Rattle.std.proofs.Common.{refl, ◌%◌, ◌/◌}
use Rattle.dwz_encode.proofs.ByteLemmas.{le_done, le_start, le_step}
use Rattle.dwz_expand_layout.proofs.numbers.put_bytes.Goals as goal

pub loop-init : goal.loop-init
loop-init c = le_start c.args.out.now.items c.args.width c.args.number

pub loop-preserved : goal.loop-preserved
loop-preserved c =
    le_step c.args.out.now.items c.loop.out.items c.push.new.self.items c.args.width c.loop.counter (c.loop.rest % 256) c.loop.rest (c.loop.rest / 256) c.args.number c.loop-test.true refl refl
    c.in_ok-push.ensures.items c.loop.invariant

pub returns : goal.returns
returns c = le_done c.args.out.now.items c.loop.out.items c.args.width c.loop.counter c.loop.rest c.args.number c.loop-test.false c.loop.invariant

use Rattle.std.proofs.Common.{refl, ◌++◌, ◌/◌, ◌-◌}
use Rattle.dwz_bytes.specs.Spelling.{padded}
use Rattle.dwz_encode.proofs.ByteLemmas.{padded_done, padded_step}
use Rattle.dwz_expand_layout.proofs.numbers.put_groups.Goals as goal

pub loop-left-preserved : goal.loop-left-preserved
loop-left-preserved c =
    padded_step c.loop-left.out.items c.push.new.self.items c.loop-left.left c.group.result c.loop-left.rest (c.loop-left.rest / 128) (c.loop-left.left - 1)
    (c.args.out.now.items ++ padded c.args.width c.args.number)
    c.loop-left-test.true c.group.ensures refl refl c.in_ok-push.ensures.items c.loop-left.invariant

pub returns : goal.returns
returns c = padded_done c.loop-left.out.items (c.args.out.now.items ++ padded c.args.width c.args.number) c.loop-left.left c.loop-left.rest c.loop-left-test.false c.loop-left.invariant

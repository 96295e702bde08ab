use Rattle.std.proofs.Common.{refl}
use Rattle.dwz_strs.proofs.SlotSteps.{one_place}
use Rattle.dwz_strs.proofs.offset_tables.put_places.Goals as goal

pub loop-i-preserved : goal.loop-i-preserved
loop-i-preserved c = one_place c.args.from c.args.count c.loop-i.i _ _ _ _ c.loop-i-test.true refl c.in_ok-push.ensures.items c.loop-i.invariant

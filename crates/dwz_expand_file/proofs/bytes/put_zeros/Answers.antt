use Rattle.dwz_def_reading.proofs.ListFacts.{one_zero}
use Rattle.dwz_expand_file.proofs.bytes.put_zeros.Goals as goal

pub loop-i-preserved : goal.loop-i-preserved
loop-i-preserved c = one_zero c.args.count c.loop-i.i _ _ _ c.loop-i-test.true c.in_ok-push.ensures.items c.loop-i.invariant

use Rattle.dwz_expand_sections.proofs.NarrowLemmas.{digit_less}
use Rattle.dwz_expand_sections.proofs.narrow.reaches.Goals as goal

pub loop-k-preserved : goal.loop-k-preserved
loop-k-preserved c = digit_less c.args.radix c.args.count c.args.number c.loop-k._k c.loop-k.rest c.requires c.loop-k-test.true c.loop-k.invariant

use Rattle.std.proofs.Common.{arith}
use Rattle.dwz_bytes.proofs.PaddedLemmas.{counts_last, counts_on}
use Rattle.dwz_forms.proofs.numbers.group_count_of.Goals as goal

pub loop-rest-preserved : goal.loop-rest-preserved
loop-rest-preserved c = counts_on _ _ _ c.loop-rest.invariant c.loop-rest-test.true

pub returns-clause-count : goal.returns-clause-count
returns-clause-count c = let h = counts_last _ _ _ c.loop-rest.invariant c.loop-rest-test.false in omega (arith, h)

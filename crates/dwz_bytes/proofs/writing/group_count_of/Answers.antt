use Rattle.dwz_bytes.proofs.PaddedLemmas.{count_suffices, counts_last, counts_on}
use Rattle.std.proofs.Common.{◌≡◌, arith}
use Rattle.dwz_bytes.specs.Spelling.{group_count}
use Rattle.dwz_bytes.proofs.writing.group_count_of.Goals as goal

pub loop-rest-preserved : goal.loop-rest-preserved
loop-rest-preserved c = counts_on _ _ _ c.loop-rest.invariant c.loop-rest-test.true

pub returns-clause-count : goal.returns-clause-count
returns-clause-count c = let h = counts_last _ _ _ c.loop-rest.invariant c.loop-rest-test.false in omega (arith, h)

pub returns-clause-enough : goal.returns-clause-enough
returns-clause-enough c =
    let h = counts_last _ _ _ c.loop-rest.invariant c.loop-rest-test.false in
    let is : c.loop-rest.count ≡ group_count c.args.value = omega (arith, h) in
    rw is (count_suffices 9 c.args.value c.requires).holds

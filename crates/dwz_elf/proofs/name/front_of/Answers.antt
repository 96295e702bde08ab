use Rattle.std.proofs.Common.{arith}
use Rattle.dwz_elf.proofs.NameLemmas.{front_long, front_none, front_short}
use Rattle.dwz_elf.proofs.name.front_of.Goals as goal

pub returns-then-i-rest : goal.returns-then-i-rest
returns-then-i-rest c = front_none c.args.rest.now c.loop-i.i c.if-i-rest.true c.loop-i.invariant.1

pub returns-then-rest-i-eq0 : goal.returns-then-rest-i-eq0
returns-then-rest-i-eq0 c = front_short c.args.rest.now c.loop-i.i c.loop-i-test.true c.if-i-rest.false c.if-rest-i-eq0.true c.loop-i.invariant.1

pub returns : goal.returns
returns c = front_long c.args.rest.now (omega (arith, c.loop-i.invariant.0)) (λ k less. c.loop-i.invariant.1 k (omega (arith, less)))

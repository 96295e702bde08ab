use Rattle.std.proofs.Common.{◌<◌, ℕ, subst}
use Rattle.dwz_encode_operands.proofs.FirstLemmas.{power_over}
use Rattle.dwz_encode_operands.proofs.over.reaches.Goals as goal

pub returns-then-power-number : goal.returns-then-power-number
returns-then-power-number c = power_over c.args.radix c.loop-k._k c.args.count c.args.number c.requires.some c.loop-k.auto._k-end
    (subst (λ (n : ℕ). c.args.number < n) c.loop-k.invariant c.if-power-number.true)

use Rattle.std.proofs.Common.{ap, ℕ, ◌+◌, ◌*◌, ◌-◌, arith, nat_lt}
use Rattle.dwz_plan.specs.Gaining.{gains_alone}
use Rattle.dwz_plan.proofs.GainLemmas.{test_few, test_heavy}
use Rattle.dwz_plan.proofs.gain.gains_alone.Goals as goal

pub returns-then-users-lt2 : goal.returns-then-users-lt2
returns-then-users-lt2 c = test_few c.args.users c.args.weight (let e = c.from-users.ensures in let l = c.if-users-lt2.true in omega arith)

pub returns-then-weight-ge64 : goal.returns-then-weight-ge64
returns-then-weight-ge64 c = test_heavy c.args.users c.args.weight (let e = c.from-users.ensures in let l = c.if-users-lt2.false in omega arith) (let l = c.if-weight-ge64.true in omega arith)

pub returns : goal.returns
unfolding gains_alone
returns c = ap (λ (u : ℕ). nat_lt (16 + 6 * u) ((u - 1) * c.args.weight)) c.from-users.ensures

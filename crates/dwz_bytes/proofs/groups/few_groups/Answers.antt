use Rattle.std.proofs.Common.{arith}
use Rattle.dwz_bytes.proofs.FewGroups.{one_group, two_groups}
use Rattle.dwz_bytes.proofs.groups.few_groups.Goals as goal

pub returns-then-first-lt128 : goal.returns-then-first-lt128
returns-then-first-lt128 c = one_group c.args.bytes.now (omega (arith, c.if-bytes-lt2.false)) c.if-first-lt128.true

pub returns-then-second-lt128 : goal.returns-then-second-lt128
returns-then-second-lt128 c = two_groups c.args.bytes.now (omega (arith, c.if-bytes-lt2.false)) (omega (arith, c.if-first-lt128.false)) c.if-second-lt128.true

use Rattle.std.proofs.Common.{sym}
use Rattle.dwz_bytes.proofs.PaddedLemmas.{only_one}
use Rattle.dwz_forms.proofs.numbers.uleb_len.Goals as goal

pub returns-then-value-lt128-clause-count : goal.returns-then-value-lt128-clause-count
returns-then-value-lt128-clause-count c = sym (only_one 9 c.args.value c.if-value-lt128.true)

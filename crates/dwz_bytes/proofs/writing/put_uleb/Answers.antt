use Rattle.std.proofs.Common.{◌++◌, List, ℕ, ap, sym, ◌∙◌}
use Rattle.dwz_bytes.proofs.PaddedLemmas.{uleb_small}
use Rattle.dwz_bytes.proofs.writing.put_uleb.Goals as goal

pub returns-then-value-lt128-clause-ok : goal.returns-then-value-lt128-clause-ok
returns-then-value-lt128-clause-ok c = c.in_ok-push.ensures.items ∙ ap (λ (w : List ℕ). c.args.out.now.items ++ w) (sym (uleb_small c.args.value c.if-value-lt128.true))

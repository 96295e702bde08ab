use Rattle.std.proofs.Common.{arith}
use Rattle.dwz_abbrev.proofs.WriteLemmas.{ascends_kept}
use Rattle.dwz_abbrev.proofs.writing.ascends.Goals as goal

pub returns : goal.returns
returns c = ascends_kept c.args.decls.now (λ k d lt. c.loop-place.invariant k d (omega (arith, lt)))

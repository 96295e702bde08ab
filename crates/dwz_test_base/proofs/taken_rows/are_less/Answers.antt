use Rattle.std.proofs.Common.{ℕ, ◌<◌, List, subst, sym, arith}
use Rattle.std.proofs.lemmas.List.{take_all}
use Rattle.dwz_model.specs.Lists.{In}
use Rattle.dwz_takes.proofs.MarkFacts.{each_next}
use Rattle.dwz_test_base.proofs.taken_rows.are_less.Goals as goal

pub loop-number-preserved : goal.loop-number-preserved
loop-number-preserved c = each_next (λ n. n < c.args.bound) c.args.numbers.now c.loop-number.number-index (omega arith) c.loop-number.invariant (omega arith)

pub returns : goal.returns
returns c t n i = c.loop-number.invariant n (subst (λ (xs : List ℕ). In n xs) (sym (take_all c.loop-number.number-index c.args.numbers.now (omega arith))) i)

use Rattle.dwz_label.specs.Keyed.{ArePutTo}
use Rattle.dwz_label.proofs.equal.with_least.Given as goal

abbrev pub invariant-loop-at : goal.invariant-loop-at
invariant-loop-at g l = ArePutTo g.K.Ord.cmp l.rows.items l.initial.firsts.items l.at l.firsts.items l.first

use Rattle.dwz_explain.proofs.AttributeSteps.{Names}
use Rattle.dwz_explain.proofs.attribute_at.name_at.Given as goal

abbrev pub invariant-loop-pair : goal.invariant-loop-pair
invariant-loop-pair l = Names l.pairs l.index l.pair-index l.left

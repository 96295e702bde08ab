use Rattle.dwz_takes.proofs.BlockFacts.{AreSplitTo}
use Rattle.dwz_takes.proofs.staying.split.Given as goal

abbrev pub invariant-loop-number : goal.invariant-loop-number
invariant-loop-number l = AreSplitTo l.kin l.images l.number-index l.split.items

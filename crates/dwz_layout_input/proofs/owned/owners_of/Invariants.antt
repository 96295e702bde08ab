use Rattle.dwz_layout_input.proofs.OwnerSteps.{Owning}
use Rattle.dwz_layout_input.proofs.owned.owners_of.Given as goal

abbrev pub invariant-loop-number : goal.invariant-loop-number
invariant-loop-number l = Owning l.files l.indexes l.plan l.numbers l.number l.owners.items

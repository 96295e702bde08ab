use Rattle.std.proofs.Common.{◌≡◌, map, take}
use Rattle.dwz_layout_input.specs.Places.{number_at}
use Rattle.dwz_layout_input.proofs.pinned.spaces_of.Given as goal

abbrev pub invariant-loop-entry : goal.invariant-loop-entry
invariant-loop-entry l = l.into.items ≡ map (number_at l.numbers) (take l.entry-index l.refs)

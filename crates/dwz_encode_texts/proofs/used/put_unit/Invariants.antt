use Rattle.std.proofs.Common.{◌≡◌, ◌++◌, length}
use Rattle.dwz_layout.specs.Attributes.{here_view}
use Rattle.dwz_layout.specs.Entries.{entries_of}
use Rattle.dwz_encode_texts.specs.Used.{items_uses}
use Rattle.dwz_encode_texts.proofs.UseSteps.{entries_uses}
use Rattle.dwz_encode_texts.proofs.used.put_unit.Given as goal

abbrev pub invariant-loop-entry : goal.invariant-loop-entry
invariant-loop-entry l = l.uses.items ++ entries_uses l.known (here_view l.here) (entries_of l.walk) ≡ l.fn.uses.items ++ items_uses l.known l.unit l.items

abbrev pub decreases-loop-entry : goal.decreases-loop-entry
decreases-loop-entry l = length l.walk

use Rattle.std.proofs.Common.{◌≡◌, length}
use Rattle.dwz_layout.specs.Entries.{entries_of}
use Rattle.dwz_encode_common.specs.Gathered.{with_all}
use Rattle.dwz_encode_common.specs.Stored.{items_give, origin_texts}
use Rattle.dwz_encode_common.proofs.TextSteps.{entries_give}
use Rattle.dwz_encode_common.proofs.texts.put_unit.Given as goal

abbrev pub invariant-loop-entry : goal.invariant-loop-entry
invariant-loop-entry l =
    with_all l.pool (entries_give (origin_texts l.graph.given l.known) (entries_of l.walk))
    ≡ with_all l.fn.pool (items_give (origin_texts l.graph.given l.known) l.known l.items)

abbrev pub decreases-loop-entry : goal.decreases-loop-entry
decreases-loop-entry l = length l.walk

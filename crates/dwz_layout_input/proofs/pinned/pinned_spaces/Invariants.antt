use Rattle.std.proofs.Common.{length}
use Rattle.dwz_def_tops.specs.Spots.{units_of}
use Rattle.dwz_graph.specs.Files.{docs_of}
use Rattle.dwz_graph.specs.Across.{starts_at}
use Rattle.dwz_move_files.proofs.MarkSteps.{MarkedBy}
use Rattle.dwz_layout_order.specs.Lists.{all_spaces}
use Rattle.dwz_layout_input.proofs.AllPins.{pins_number}
use Rattle.dwz_layout_input.proofs.pinned.pinned_spaces.Given as goal

abbrev pub invariant-loop-number : goal.invariant-loop-number
invariant-loop-number l = MarkedBy (units_of (docs_of l.graph.given)) (pins_number (units_of (docs_of l.graph.given))) (length (all_spaces l.indexes)) (starts_at (docs_of l.graph.given) l.indexes l.number).unit
    l.named.by_uleb.items

use Rattle.std.proofs.Common.{length}
use Rattle.dwz_def_tops.specs.Spots.{units_of}
use Rattle.dwz_graph.specs.Files.{docs_of}
use Rattle.dwz_def_images.specs.Moves.{Move}
use Rattle.dwz_layout_order.specs.Behind.{ArePlannedFirst}
use Rattle.dwz_layout_input.proofs.LinesLemmas.{LinesUpTo}
use Rattle.dwz_layout_input.proofs.lines.part_lines.Given as goal

abbrev pub invariant-loop-part : goal.invariant-loop-part
invariant-loop-part l = (m : Move) → ArePlannedFirst m (units_of (docs_of l.graph.given)) (length (docs_of l.graph.given)) l.tops l.plan
    → LinesUpTo m (units_of (docs_of l.graph.given)) l.part-index l.lines.items

use Rattle.std.proofs.Common.{◌≡◌, length}
use Rattle.dwz_def_tops.specs.Spots.{units_of}
use Rattle.dwz_graph.specs.Files.{docs_of}
use Rattle.dwz_graph.specs.Across.{starts_at}
use Rattle.dwz_layout_order.specs.Shown.{text_of}
use Rattle.dwz_layout_order.specs.Spaces.{said_of}
use Rattle.dwz_layout_input.specs.Names.{HaveNumbers, look}
use Rattle.dwz_layout_input.proofs.names.space_texts.Given as goal

abbrev pub invariant-loop-number : goal.invariant-loop-number
invariant-loop-number l = record {
  len : length l.texts.items ≡ (starts_at (docs_of l.graph.given) l.indexes l.number).space;
  numbers : HaveNumbers (λ n. text_of (said_of (units_of (docs_of l.graph.given)) n)) l.texts.items (look l.seen);
}

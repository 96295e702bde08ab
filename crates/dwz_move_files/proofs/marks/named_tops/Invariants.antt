use Rattle.dwz_def_tops.specs.Alike.{is_in, names_in_unit}
use Rattle.dwz_def_tops.specs.Spots.{units_of}
use Rattle.dwz_graph.specs.Files.{docs_of}
use Rattle.dwz_def_plan.specs.Plan.{pinned_in}
use Rattle.std.proofs.Common.{length}
use Rattle.dwz_graph.specs.Across.{starts_at}
use Rattle.dwz_move_files.proofs.MarkSteps.{MarkedBy}
use Rattle.dwz_move_files.proofs.marks.named_tops.Given as goal

abbrev pub invariant-loop-number : goal.invariant-loop-number
invariant-loop-number l = record {
  any : MarkedBy (units_of (docs_of l.graph.given)) names_in_unit (starts_at (docs_of l.graph.given) l.indexes (length l.indexes)).top (starts_at (docs_of l.graph.given) l.indexes l.number).unit l.named.by_any.items;
  uleb : MarkedBy (units_of (docs_of l.graph.given)) (λ n. pinned_in (is_in n)) (starts_at (docs_of l.graph.given) l.indexes (length l.indexes)).top (starts_at (docs_of l.graph.given) l.indexes l.number).unit
      l.named.by_uleb.items;
}

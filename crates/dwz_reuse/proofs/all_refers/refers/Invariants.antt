use Rattle.dwz_def_tops.specs.Spots.{tops_of, units_of}
use Rattle.dwz_graph.specs.Files.{docs_of}
use Rattle.dwz_graph.specs.Across.{starts_at}
use Rattle.dwz_reuse.specs.Refers.{AreRefers}
use Rattle.dwz_reuse.proofs.all_refers.refers.Given as goal

abbrev pub invariant-loop-number : goal.invariant-loop-number
invariant-loop-number l = AreRefers (tops_of (units_of (docs_of l.graph.given))) (starts_at (docs_of l.graph.given) l.indexes l.number).unit (starts_at (docs_of l.graph.given) l.indexes l.number).top l.edges.items

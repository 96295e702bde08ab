use Rattle.dwz_def_tops.specs.Spots.{units_of}
use Rattle.dwz_graph.specs.Files.{docs_of}
use Rattle.dwz_move_files.specs.Named.{AreNamed}
use Rattle.dwz_graph.specs.Across.{starts_at}
use Rattle.dwz_move_files.specs.Drafts.{IsDraft}
use Rattle.dwz_move_files.proofs.draft.gather.Given as goal

abbrev pub invariant-loop-number : goal.invariant-loop-number
invariant-loop-number l = AreNamed (units_of (docs_of l.graph.given)) l.named → IsDraft (docs_of l.graph.given) 0 (starts_at (docs_of l.graph.given) l.indexes l.number).top l.draft

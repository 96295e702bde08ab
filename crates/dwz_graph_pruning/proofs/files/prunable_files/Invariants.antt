use Rattle.dwz_graph_pruning.proofs.FileLemmas.{FilesLeft}
use Rattle.dwz_graph_pruning.proofs.files.prunable_files.Given as goal

abbrev pub invariant-loop-number : goal.invariant-loop-number
invariant-loop-number l = let files = l.file-items in FilesLeft l.graph.given files l.number l.flags.items

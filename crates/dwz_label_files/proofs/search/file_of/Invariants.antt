use Rattle.std.proofs.Common.{◌-◌}
use Rattle.dwz_label_files.proofs.SearchLemmas.{Between}
use Rattle.dwz_label_files.proofs.search.file_of.Given as goal

abbrev pub invariant-halving : goal.invariant-halving
invariant-halving l = Between l.run.graph.now.given l.run.indexes.now l.n l.low l.high

abbrev pub decreases-halving : goal.decreases-halving
decreases-halving l = l.high - l.low

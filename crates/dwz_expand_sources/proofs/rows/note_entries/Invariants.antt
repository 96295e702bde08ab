use Rattle.dwz_expand_sources.proofs.NotedLemmas.{RangesLeft}
use Rattle.dwz_expand_sources.proofs.rows.note_entries.Given as goal

abbrev pub invariant-loop-range : goal.invariant-loop-range
invariant-loop-range l = RangesLeft l.unit l.number l.root l.at l.ranges l.range-index l.fn.row l.row

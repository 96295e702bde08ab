use Rattle.dwz_reuse.proofs.SpreadSteps.{SourcesBefore}
use Rattle.dwz_reuse.proofs.spread.sources_of.Given as goal

abbrev pub invariant-loop-top : goal.invariant-loop-top
invariant-loop-top l = SourcesBefore l.first l.targets l.top l.edges.items

use Rattle.std.proofs.Common.{take}
use Rattle.dwz_reuse.specs.Spread.{PutsSources}
use Rattle.dwz_reuse.proofs.spread.put_sources.Given as goal

abbrev pub invariant-loop-target : goal.invariant-loop-target
invariant-loop-target l = PutsSources l.first l.top (take l.target-index l.targets) l.fn.edges.items l.edges.items

use Rattle.std.proofs.Common.{take}
use Rattle.dwz_reuse.specs.Refers.{PutsList}
use Rattle.dwz_reuse.proofs.own.put_list.Given as goal

abbrev pub invariant-loop-target : goal.invariant-loop-target
invariant-loop-target l = PutsList l.own (take l.target-index l.targets) l.from l.fn.edges.items l.edges.items

use Rattle.std.proofs.Common.{◌≡◌, ◌++◌, map, take}
use Rattle.dwz_takes.specs.Steps.{held}
use Rattle.dwz_takes.proofs.watch.add_held.Given as goal

abbrev pub invariant-loop-top : goal.invariant-loop-top
invariant-loop-top l = l.edges.items ≡ l.fn.edges.items ++ map (held l.classes l.unit) (take l.top-index l.tops)

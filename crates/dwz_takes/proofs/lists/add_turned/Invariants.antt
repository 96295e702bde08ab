use Rattle.std.proofs.Common.{◌≡◌, ◌++◌, map, take}
use Rattle.dwz_takes.specs.Steps.{turned}
use Rattle.dwz_takes.proofs.lists.add_turned.Given as goal

abbrev pub invariant-loop-item : goal.invariant-loop-item
invariant-loop-item l = l.edges.items ≡ l.fn.edges.items ++ map (turned l.number) (take l.item-index l.list)

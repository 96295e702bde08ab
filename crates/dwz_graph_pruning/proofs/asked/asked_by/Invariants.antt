use Rattle.std.proofs.Common.{◌≡◌, false, map, take}
use Rattle.std.specs.List.{list_any}
use Rattle.dwz_graph_pruning.specs.Stays.{asks}
use Rattle.dwz_graph_pruning.proofs.asked.asked_by.Given as goal

abbrev pub invariant-loop-number : goal.invariant-loop-number
invariant-loop-number l = l.asked.items ≡ map (list_any (asks false)) (take l.number l.declarations.pairs)

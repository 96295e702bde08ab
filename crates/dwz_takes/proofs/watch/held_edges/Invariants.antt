use Rattle.std.proofs.Common.{◌≡◌, take}
use Rattle.dwz_takes.specs.Steps.{edges_from, held}
use Rattle.dwz_takes.proofs.watch.held_edges.Given as goal

abbrev pub invariant-loop-unit : goal.invariant-loop-unit
invariant-loop-unit l = l.edges.items ≡ edges_from (held l.classes) 0 (take l.unit l.unit_tops)

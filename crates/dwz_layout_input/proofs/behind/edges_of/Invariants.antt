use Rattle.std.proofs.Common.{◌≡◌, take}
use Rattle.dwz_takes.specs.Steps.{edges_from}
use Rattle.dwz_match.specs.Parts.{edge_to}
use Rattle.dwz_layout_input.proofs.behind.edges_of.Given as goal

abbrev pub invariant-loop-top : goal.invariant-loop-top
invariant-loop-top l = l.edges.items ≡ edges_from edge_to 0 (take l.top l.targets)

use Rattle.std.proofs.Common.{◌≡◌, take}
use Rattle.dwz_match.specs.Parts.{edge_to, spans}
use Rattle.dwz_takes.specs.Steps.{edges_from}
use Rattle.dwz_match.proofs.parts.part_edges.Given as goal

abbrev pub invariant-loop-part : goal.invariant-loop-part
invariant-loop-part l = l.edges.items ≡ edges_from edge_to 0 (take l.part (spans l.end l.starts))

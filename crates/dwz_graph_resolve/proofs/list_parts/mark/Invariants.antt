use Rattle.std.proofs.Common.{take}
use Rattle.dwz_graph_resolve.specs.ListParts.{Marks}
use Rattle.dwz_graph_resolve.proofs.list_parts.mark.Given as goal

abbrev pub invariant-loop-place : goal.invariant-loop-place
invariant-loop-place l = Marks l.fn.marks.items (take l.place-index l.places) l.number l.marks.items

use Rattle.std.proofs.Common.{◌≡◌, ◌++◌, map, take}
use Rattle.dwz_imports.specs.Stored.{edge}
use Rattle.dwz_imports.proofs.collecting.put_parts.Given as goal

abbrev pub invariant-loop-part : goal.invariant-loop-part
invariant-loop-part l = l.edges.items ≡ l.fn.edges.items ++ map (edge l.unit) (take l.part-index l.parts)

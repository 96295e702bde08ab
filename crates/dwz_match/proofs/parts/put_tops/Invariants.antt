use Rattle.std.proofs.Common.{◌≡◌, ◌⊎◌, ◌≤◌, ◌-◌, ◌++◌, map}
use Rattle.std.specs.List.{range_with_len}
use Rattle.dwz_match.specs.Parts.{edge_to}
use Rattle.dwz_match.proofs.parts.put_tops.Given as goal

abbrev pub invariant-loop-top : goal.invariant-loop-top
invariant-loop-top l =
    (l.from ≤ l.top) × ((l.top ≤ l.to) ⊎ (l.top ≡ l.from)) × (l.edges.items ≡ l.fn.edges.items ++ map (edge_to l.part) (range_with_len l.from (l.top - l.from)))

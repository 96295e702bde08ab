use Rattle.std.proofs.Common.{◌≡◌, ◌+◌, ◌++◌, drop, map}
use Rattle.dwz_layout_input.specs.Behind.{units_from}
use Rattle.dwz_layout_input.proofs.behind.units_of_tops.Given as goal

abbrev pub invariant-loop-number : goal.invariant-loop-number
invariant-loop-number l =
    l.units.items ++ units_from l.end (l.unit + l.number) (drop l.number (map (λ s. s.top) l.starts)) ≡ units_from l.end l.unit (map (λ s. s.top) l.starts)

use Rattle.std.proofs.Common.{◌≡◌, ◌⊎◌, ◌≤◌, ◌-◌, ◌++◌}
use Rattle.std.specs.Prelude.{replicate}
use Rattle.dwz_layout_input.proofs.behind.put_unit.Given as goal

abbrev pub invariant-loop-top : goal.invariant-loop-top
invariant-loop-top l = (l.from ≤ l._top) × ((l._top ≤ l.to) ⊎ (l._top ≡ l.from)) × (l.units.items ≡ l.fn.units.items ++ replicate (l._top - l.from) l.unit)

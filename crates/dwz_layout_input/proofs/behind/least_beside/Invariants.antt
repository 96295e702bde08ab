use Rattle.std.proofs.Common.{◌≡◌, ◌≤◌, ◌-◌, ◌++◌, length}
use Rattle.std.specs.List.{range_with_len}
use Rattle.dwz_layout_input.proofs.behind.least_beside.Given as goal

abbrev pub invariant-loop-top : goal.invariant-loop-top
invariant-loop-top l =
    (length l.fn.least.items ≤ l.top) × (l.top ≤ l.count) × (l.all.items ≡ l.fn.least.items ++ range_with_len (length l.fn.least.items) (l.top - length l.fn.least.items))

use Rattle.std.proofs.Common.{◌≡◌, ◌+◌, ◌++◌, map, take}
use Rattle.dwz_layout_input.proofs.standing.add_tops.Given as goal

abbrev pub invariant-loop-top : goal.invariant-loop-top
invariant-loop-top l = l.tops.items ≡ l.initial.tops.items ++ map (λ t. l.start + t.entry) (take l.top-index l.entries)

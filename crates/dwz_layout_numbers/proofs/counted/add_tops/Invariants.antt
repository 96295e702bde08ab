use Rattle.std.proofs.Common.{◌≡◌, ◌++◌, take}
use Rattle.dwz_graph.specs.EntryCounts.{tops_in}
use Rattle.dwz_layout_numbers.proofs.counted.add_tops.Given as goal

abbrev pub invariant-loop-top : goal.invariant-loop-top
invariant-loop-top l = l.tops.items ≡ l.initial.tops.items ++ tops_in l.start (take l.top-index l.entries)

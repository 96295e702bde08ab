use Rattle.std.proofs.Common.{◌≡◌, ◌++◌, map, take}
use Rattle.dwz_layout_order.specs.Lists.{spaces_at}
use Rattle.dwz_layout_order.proofs.spaces.push_tops.Given as goal

abbrev pub invariant-loop-top : goal.invariant-loop-top
invariant-loop-top l = l.of_tops.items ≡ l.fn.of_tops.items ++ map (spaces_at l.lists) (take l.top-index l.tops)

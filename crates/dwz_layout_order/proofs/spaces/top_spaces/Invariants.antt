use Rattle.std.proofs.Common.{◌≡◌, map, take}
use Rattle.dwz_layout_order.specs.Lists.{all_tops, spaces_at}
use Rattle.dwz_layout_order.proofs.spaces.top_spaces.Given as goal

abbrev pub invariant-loop-index : goal.invariant-loop-index
invariant-loop-index l = l.of_tops.items ≡ map (spaces_at l.lists) (all_tops (take l.index-index l.indexes))

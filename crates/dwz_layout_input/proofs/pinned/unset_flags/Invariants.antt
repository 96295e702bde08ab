use Rattle.std.proofs.Common.{◌≡◌, false, length, take}
use Rattle.std.specs.Prelude.{replicate}
use Rattle.dwz_layout_order.specs.Lists.{all_spaces}
use Rattle.dwz_layout_input.proofs.pinned.unset_flags.Given as goal

abbrev pub invariant-loop-index : goal.invariant-loop-index
invariant-loop-index l = l.flags.items ≡ replicate (length (all_spaces (take l.index-index l.indexes))) false

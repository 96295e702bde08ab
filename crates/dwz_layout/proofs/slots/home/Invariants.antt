use Rattle.std.proofs.Common.{◌≡◌, fold, take}
use Rattle.dwz_def_reading.specs.Abbrevs.{children_byte}
use Rattle.dwz_layout.specs.Keys.{mixed}
use Rattle.dwz_layout.specs.Slots.{mixed_pair}
use Rattle.dwz_layout.proofs.slots.home.Given as goal

abbrev pub invariant-loop-pair : goal.invariant-loop-pair
invariant-loop-pair l = l.hash ≡ fold mixed_pair (mixed l.tag (children_byte l.children)) (take l.pair-index l.pairs)

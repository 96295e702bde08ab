use Rattle.std.proofs.Common.{All, take}
use Rattle.dwz_abbrev.specs.Ranges.{IsInRange}
use Rattle.dwz_abbrev.proofs.table.all_in_range.Given as goal

abbrev pub invariant-loop-pair : goal.invariant-loop-pair
invariant-loop-pair l = All IsInRange (take l.pair-index l.pairs)

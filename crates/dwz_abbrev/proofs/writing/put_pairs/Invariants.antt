use Rattle.std.proofs.Common.{◌≡◌, ◌++◌, drop}
use Rattle.dwz_def_reading.specs.Abbrevs.{pairs_bytes}
use Rattle.dwz_abbrev.specs.Written.{Begins}
use Rattle.dwz_abbrev.proofs.writing.put_pairs.Given as goal

abbrev pub invariant-loop-pair : goal.invariant-loop-pair
invariant-loop-pair l =
    Begins l.fn.out.items l.out.items × (l.out.items ++ pairs_bytes (drop l.pair-index l.pairs) ≡ l.fn.out.items ++ pairs_bytes l.pairs)

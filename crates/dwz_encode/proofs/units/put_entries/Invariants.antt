use Rattle.std.proofs.Common.{◌≡◌, ◌++◌, drop}
use Rattle.dwz_layout.specs.Attributes.{here_view}
use Rattle.dwz_encode.specs.Views.{numbers_view}
use Rattle.dwz_encode.proofs.ByteLemmas.{entries_left}
use Rattle.dwz_encode.proofs.units.put_entries.Given as goal

abbrev pub invariant-loop-code : goal.invariant-loop-code
invariant-loop-code l =
    l.out.items ++ entries_left l.known (here_view l.here) (numbers_view l.numbers) (drop l.code-index l.codes) l.walk
    ≡ l.fn.out.items ++ entries_left l.known (here_view l.here) (numbers_view l.numbers) l.codes l.fn.walk

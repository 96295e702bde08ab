use Rattle.std.proofs.Common.{◌≡◌}
use Rattle.dwz_layout.specs.Ways.{holder_view}
use Rattle.dwz_layout.proofs.NameLemmas.{NameLeft}
use Rattle.dwz_encode.proofs.values.put_name.Given as goal

abbrev pub invariant-loop-pair : goal.invariant-loop-pair
invariant-loop-pair l = record { left : NameLeft l.known (holder_view l.holder) l.fn.space l.pairs l.pair-index l.cursor; same : l.out.items ≡ l.fn.out.items }

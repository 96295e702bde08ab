use Rattle.dwz_layout.specs.Attributes.{here_view}
use Rattle.dwz_layout.proofs.SizeLemmas.{Measured}
use Rattle.dwz_layout.proofs.sizes.measure_row.Given as goal

abbrev pub invariant-loop-pair : goal.invariant-loop-pair
invariant-loop-pair l = Measured l.known (here_view l.here) l.row l.pairs l.pair-index l.cursor l.next l.room.pairs.items l.size

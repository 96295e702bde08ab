use Rattle.dwz_layout.specs.Attributes.{here_view}
use Rattle.dwz_encode.specs.Views.{numbers_view}
use Rattle.dwz_encode.proofs.ValueLemmas.{PutSoFar}
use Rattle.dwz_encode.proofs.values.put_row.Given as goal

abbrev pub invariant-loop-pair : goal.invariant-loop-pair
invariant-loop-pair l = PutSoFar (numbers_view l.numbers) l.known (here_view l.here) l.row l.pairs l.pair-index l.cursor l.next l.fn.out.items l.out.items

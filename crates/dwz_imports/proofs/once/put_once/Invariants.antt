use Rattle.std.proofs.Common.{length}
use Rattle.dwz_imports.proofs.OnceLemmas.{OnceSo}
use Rattle.dwz_imports.proofs.once.put_once.Given as goal

abbrev pub invariant-loop-number : goal.invariant-loop-number
invariant-loop-number l = OnceSo l.fn.edges.items l.edges.items (length l.fn.marks) l.marks l.key l.number-index l.numbers

use Rattle.dwz_expand_layout.specs.Written.{numbers_view}
use Rattle.dwz_expand_layout.proofs.ValueLemmas.{Put}
use Rattle.dwz_expand_layout.proofs.values.put_values.Given as goal

abbrev pub invariant-loop-attr : goal.invariant-loop-attr
invariant-loop-attr l = Put (numbers_view l.numbers) l.operands l.attrs l.attr-index l.fn.out.items l.out.items

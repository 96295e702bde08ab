use Rattle.std.proofs.Common.{◌≡◌, ◌++◌, map, take, get_or}
use Rattle.dwz_check_columns.proofs.nodes.put_numbers.Given as goal

abbrev pub invariant-loop-entry : goal.invariant-loop-entry
invariant-loop-entry l = l.names.items ≡ l.fn.names.items ++ map (λ i. get_or l.numbers i 0) (take l.entry-index l.entries)

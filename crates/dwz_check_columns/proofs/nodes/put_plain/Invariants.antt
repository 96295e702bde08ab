use Rattle.std.proofs.Common.{◌≡◌, ◌++◌, false, map, take, get_or}
use Rattle.std.specs.Prelude.{not}
use Rattle.dwz_check_columns.proofs.nodes.put_plain.Given as goal

abbrev pub invariant-loop-top : goal.invariant-loop-top
invariant-loop-top l = l.plain.items ≡ l.fn.plain.items ++ map (λ t. not (get_or l.importing t.entry false)) (take l.top-index l.tops)

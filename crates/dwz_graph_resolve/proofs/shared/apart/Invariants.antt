use Rattle.std.proofs.Common.{◌≡◌, [], take}
use Rattle.dwz_graph_resolve.specs.Apart.{AreWide, Rise}
use Rattle.dwz_graph_resolve.proofs.PassLemmas.{Passed}
use Rattle.dwz_graph_resolve.proofs.shared.apart.Given as goal

abbrev pub invariant-loop-operand : goal.invariant-loop-operand
invariant-loop-operand l = l.fn.kept.items ≡ [] → Rise l.sorted → AreWide l.sorted → Passed (take l.operand-index l.sorted) l.kept.items l.last l.end

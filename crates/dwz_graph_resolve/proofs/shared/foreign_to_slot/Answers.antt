use Rattle.std.proofs.Common.{arith}
use Rattle.dwz_graph_resolve.proofs.shared.foreign_to_slot.Goals as goal

pub returns : goal.returns
returns c = λ top rows. c.foreign.ensures top 0 rows (omega arith)

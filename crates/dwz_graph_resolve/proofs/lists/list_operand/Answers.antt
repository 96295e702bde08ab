use Rattle.std.proofs.Common.{sym}
use Rattle.dwz_unit.specs.Rows.{units_of}
use Rattle.dwz_graph_resolve.proofs.PlaceLemmas.{entry_place}
use Rattle.dwz_graph_resolve.proofs.lists.list_operand.Goals as goal

pub returns-clause-place : goal.returns-clause-place
returns-clause-place c = sym (entry_place (units_of c.args.units.now) c.args.entry c.entry.result c.entry.ensures.entry)

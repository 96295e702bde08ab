use Rattle.std.proofs.Common.{Some}
use Rattle.dwz_layout.proofs.MapLemmas.{was_put}
use Rattle.dwz_layout.proofs.tables.put.Goals as goal

pub returns-clause-offsets : goal.returns-clause-offsets
returns-clause-offsets c = was_put c.args.table.items c.args.offsets.now c.insert.new.self (Some c.len-before.result) c.in_default.ensures.updates

use Rattle.std.proofs.Common.{subst}
use Rattle.dwz_unit.specs.FixedRuns.{TellRuns}
use Rattle.dwz_unit.specs.Tables.{Stored}
use Rattle.dwz_unit.proofs.tables.Tables.runs.Goals as goal

pub returns : goal.returns
returns c = rw c.as_slice.ensures.value (subst (λ (s : Stored). TellRuns s.decls c.self.inside.runs.items) c.self.view_is c.self.invariant.1)

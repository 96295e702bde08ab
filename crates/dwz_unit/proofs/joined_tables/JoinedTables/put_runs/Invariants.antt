use Rattle.dwz_unit.specs.FixedRuns.{TellRuns}
use Rattle.dwz_unit.proofs.joined_tables.JoinedTables.put_runs.Given as goal

abbrev pub invariant-loop-base : goal.invariant-loop-base
invariant-loop-base l = TellRuns l.self.decls l.runs.items

use Rattle.std.proofs.Common.{List}
use Rattle.dwz_model.specs.declared.place.Pair.{Pair}
use Rattle.dwz_unit.specs.FixedRuns.{TellRuns}
use Rattle.dwz_unit.specs.Found.{StandsIn}
use Rattle.dwz_unit.specs.RowViews.{in_row}
use Rattle.dwz_unit.proofs.fixed_run.put_runs_in.Given as goal

abbrev pub invariant-loop-place : goal.invariant-loop-place
invariant-loop-place l = (decls : List (List Pair)) → StandsIn decls (in_row l.table) → TellRuns decls l.initial.runs.items → TellRuns decls l.runs.items

use Rattle.std.proofs.Common.{◌≡◌}
use Rattle.dwz_unit.proofs.stretches.all_tables.Given as goal

abbrev pub invariant-loop-offset : goal.invariant-loop-offset
invariant-loop-offset l = l.tables.section ≡ l.abbrevs

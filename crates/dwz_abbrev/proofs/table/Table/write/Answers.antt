use Rattle.std.proofs.Common.{List, subst}
use Rattle.dwz_def_reading.specs.Abbrevs.{Declaration, FitsTable, SpellsTable, by_code, table_bytes}
use Rattle.dwz_def_reading.proofs.FitLemmas.{table_written}
use Rattle.dwz_def_reading.proofs.OrderLemmas.{by_code-fits}
use Rattle.dwz_abbrev.proofs.table.Table.write.Goals as goal

-- what is written of a table that can be spelled spells it
spelled : (table : List Declaration) → FitsTable table → SpellsTable (table_bytes (by_code table)) (by_code table)
spelled table fits = table_written (by_code table) (by_code-fits table fits)

pub returns-then-is_err-clause-spelled : goal.returns-then-is_err-clause-spelled
returns-then-is_err-clause-spelled c = spelled c.args.self.now (subst FitsTable c.self.view_is c.self.invariant)

pub returns-else-is_err-clause-spelled : goal.returns-else-is_err-clause-spelled
returns-else-is_err-clause-spelled c = spelled c.args.self.now (subst FitsTable c.self.view_is c.self.invariant)

use Rattle.std.proofs.Common.{List, sym, subst}
use Rattle.dwz_model.specs.declared.place.Pair.{Pair}
use Rattle.dwz_unit.specs.FixedRuns.{TellRuns}
use Rattle.dwz_unit.proofs.NumberLemmas.{number_within, table_there}
use Rattle.dwz_unit.specs.TailViews.{tail_view}
use Rattle.dwz_unit.proofs.reading.unit_by.Goals as goal

pub table-table-requires : goal.table-table-requires
table-table-requires c = number_within c.args.tables.now c.in-Ok.header.table _ c.in_ok-known.ensures

pub unit_with-requires-clause-told : goal.unit_with-requires-clause-told
unit_with-requires-clause-told c = subst (λ (d : List (List Pair)). TellRuns d c.runs-runs.result.now) (sym c.table-table.ensures.decls) c.runs-runs.ensures

pub returns-clause-unit : goal.returns-clause-unit
returns-clause-unit c =
    let s = c.args.tables.now in
    c.in-Ok-unit_with.ensures.unit s (table_there s c.in-Ok.header.table _ (tail_view c.table-table.result) c.in_ok-known.ensures c.table-table.ensures.table) c.table-table.ensures.decls

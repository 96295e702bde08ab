use Rattle.std.proofs.Common.{◌<◌, length, subst, arith}
use Rattle.std.proofs.lemmas.List.{length-map}
use Rattle.dwz_unit.specs.Tables.{Stored}
use Rattle.dwz_unit.specs.TableViews.{table_view, table_views}
use Rattle.dwz_unit.proofs.LinkLemmas.{tables_length}
use Rattle.dwz_unit.proofs.joined_tables.JoinedTables.put_runs.Goals as goal

pub own-requires : goal.own-requires
own-requires c =
    let row = c.self.inside.pairs.row in
    let reads = c.self.inside.reads.items in
    subst (λ (s : Stored). c.loop-base.base < length s.tables) c.self.view_is
    (omega (arith, c.loop-base-test.true, c.len-base-end.ensures, c.self.inside.reads.ok.0, tables_length (table_views row reads), length-map reads (table_view row)))

pub loop-base-preserved : goal.loop-base-preserved
loop-base-preserved c = c.put_runs_in.ensures c.args.self.now.decls c.own.ensures.stands c.loop-base.invariant

pub returns-in_err-put_runs_in : goal.returns-in_err-put_runs_in
returns-in_err-put_runs_in c = c.put_runs_in.ensures c.args.self.now.decls c.own.ensures.stands c.loop-base.invariant

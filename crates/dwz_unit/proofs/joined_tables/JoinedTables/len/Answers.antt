use Rattle.std.proofs.Common.{◌≡◌, length, subst, arith}
use Rattle.std.proofs.lemmas.List.{length-map}
use Rattle.dwz_unit.specs.Tables.{Stored}
use Rattle.dwz_unit.specs.TableViews.{table_view, table_views}
use Rattle.dwz_unit.proofs.LinkLemmas.{tables_length}
use Rattle.dwz_unit.proofs.joined_tables.JoinedTables.len.Goals as goal

pub returns : goal.returns
returns c =
    let row = c.self.inside.pairs.row in
    let reads = c.self.inside.reads.items in
    subst (λ (s : Stored). c.len.result ≡ length s.tables) c.self.view_is
    (omega (arith, c.len.ensures, c.self.inside.reads.ok.0, tables_length (table_views row reads), length-map reads (table_view row)))

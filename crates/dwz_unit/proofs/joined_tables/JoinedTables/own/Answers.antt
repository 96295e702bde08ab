use Rattle.std.proofs.Common.{◌≡◌, ◌<◌, List, length, drop, Some, sym, ap, subst, ◌∙◌, arith}
use Rattle.std.specs.Prelude.{slice_get}
use Rattle.std.proofs.lemmas.List.{length-map}
use Rattle.std.proofs.lemmas.Option.{slice_get-get_or}
use Rattle.dwz_def_reading.proofs.ListFacts.{got_map}
use Rattle.dwz_model.specs.declared.place.Pair.{Pair}
use Rattle.dwz_unit.specs.Found.{StandsIn}
use Rattle.dwz_unit.specs.Tables.{Stored}
use Rattle.dwz_unit.specs.TableViews.{HasRow, table_view, table_views}
use Rattle.dwz_unit.specs.Tails.{FindsFirst, whole_tables, tail_in}
use Rattle.dwz_unit.proofs.LinkLemmas.{tables_length}
use Rattle.dwz_unit.proofs.PastLemmas.{own_found}
use Rattle.dwz_unit.proofs.TableRowLemmas.{has_at}
use Rattle.dwz_unit.proofs.joined_tables.JoinedTables.own.Goals.{After-index}
use Rattle.dwz_unit.proofs.joined_tables.JoinedTables.own.Goals as goal

pub index-requires : goal.index-requires
index-requires c =
    let within = subst (λ (s : Stored). c.args.tail.base < length s.tables) (sym c.self.view_is) c.requires in
    omega (arith, within, tables_length (table_views c.self.inside.pairs.row c.self.inside.reads.items), length-map c.self.inside.reads.items (table_view c.self.inside.pairs.row), c.self.inside.reads.ok.0)

got : (c : After-index) → slice_get c.self.inside.reads.items c.args.tail.base ≡ Some c.index.result.now
got c =
    let reads = c.self.inside.reads.items in
    let within = subst (λ (s : Stored). c.args.tail.base < length s.tables) (sym c.self.view_is) c.requires in
    let lt : c.args.tail.base < length reads = omega (arith, within, tables_length (table_views c.self.inside.pairs.row reads), length-map reads (table_view c.self.inside.pairs.row)) in
    slice_get-get_or reads c.args.tail.base c.index.result.now lt ∙ ap (λ r. Some r) (sym c.index.ensures)

pub invariant_of-result : goal.invariant_of-result
invariant_of-result c =
    let has = has_at c.self.inside.pairs.row c.self.inside.reads.items c.args.tail.base c.index.result.now c.self.invariant.1 (got (goal.at.invariant_of-result c).After-index) in
    record { within = subst (λ (w : List Pair). HasRow w c.index.result.now) (sym c.as_slice.ensures) has }

pub returns-clause-first : goal.returns-clause-first
returns-clause-first c =
    let row = c.self.inside.pairs.row in
    let reads = table_views row c.self.inside.reads.items in
    let at = got_map (table_view row) c.self.inside.reads.items c.args.tail.base c.index.result.now (got (goal.at.returns-clause-first c).After-index) in
    rw c.as_slice.ensures (subst (λ (s : Stored). FindsFirst (drop c.args.tail.skip (table_view row c.index.result.now).table) (tail_in s.tables c.args.tail)) c.self.view_is
    (λ code d is. sym (own_found reads (whole_tables reads) c.self.invariant.0.known.linked c.args.tail.base (table_view row c.index.result.now) at c.args.tail.skip code d (sym is))))

pub returns-clause-stands : goal.returns-clause-stands
returns-clause-stands c =
    let row = c.self.inside.pairs.row in
    let at = got_map (table_view row) c.self.inside.reads.items c.args.tail.base c.index.result.now (got (goal.at.returns-clause-stands c).After-index) in
    rw c.as_slice.ensures (subst (λ (s : Stored). StandsIn s.decls (table_view row c.index.result.now)) c.self.view_is
    (c.self.invariant.0.known.linked c.args.tail.base (table_view row c.index.result.now) at).stands)

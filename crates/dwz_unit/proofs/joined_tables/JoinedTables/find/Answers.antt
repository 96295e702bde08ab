use Rattle.std.proofs.Common.{◌≡◌, ℕ, ◌≤◌, ◌-◌, rules, length, drop, List, Option, None, Some, sym, ap, subst, ◌∙◌, arith}
use Rattle.std.specs.Prelude.{slice_get}
use Rattle.std.proofs.lemmas.List.{length-map}
use Rattle.std.proofs.lemmas.Option.{slice_get_read}
use Rattle.dwz_abbrev.specs.ReadViews.{read_views}
use Rattle.dwz_def_reading.specs.Abbrevs.{Declaration, find_decl}
use Rattle.dwz_def_reading.proofs.ListFacts.{got_map}
use Rattle.dwz_model.specs.declared.place.Pair.{Pair}
use Rattle.dwz_unit.specs.declared.joined_table.JoinedTable.{JoinedTable}
use Rattle.dwz_unit.specs.declared.numbered.Numbered.{Numbered}
use Rattle.dwz_unit.specs.declared.tail.Tail.{Tail}
use Rattle.dwz_unit.specs.Found.{Finds, FindsOwn, all_pairs, found_view}
use Rattle.dwz_unit.specs.Tables.{Stored}
use Rattle.dwz_unit.specs.TableViews.{TableView, table_view, table_views}
use Rattle.dwz_unit.specs.Tails.{end_in, whole_tables, tail_in}
use Rattle.dwz_unit.proofs.LinkLemmas.{none_there, own_stands}
use Rattle.dwz_unit.proofs.PastLemmas.{none_own, no_more, own_found}
use Rattle.dwz_unit.proofs.TableRowLemmas.{own_length}
use Rattle.dwz_unit.proofs.joined_tables.JoinedTables.find.Goals as goal
use Rattle.dwz_unit.proofs.joined_tables.JoinedTables.find.Goals.{After-saturating_sub-past}

pub returns-in_err-read : goal.returns-in_err-read
returns-in_err-read c =
    let past : length c.self.inside.reads.items ≤ c.args.tail.base = search rules in
    let views = table_views c.self.inside.pairs.row c.self.inside.reads.items in
    let beyond : length views ≤ c.args.tail.base = omega (arith, past, length-map c.self.inside.reads.items (table_view c.self.inside.pairs.row)) in
    rw c.from_residual.ensures
    (subst (λ (s : Stored). find_decl (tail_in s.tables c.args.tail) c.args.code ≡ None) c.self.view_is (sym (none_there views c.args.tail c.args.code beyond)))

-- what is found among the table's own declarations, by another name of the row
by_row : (row given : List Pair) (r : JoinedTable) (skip code : ℕ) (o : Option Numbered) → given ≡ row → FindsOwn (table_view given r) (find_decl (drop skip (read_views given r.rows)) code) o
    → FindsOwn (table_view row r) (find_decl (drop skip (read_views row r.rows)) code) o
by_row row given r skip code o is finds = subst (λ (w : List Pair). FindsOwn (table_view w r) (find_decl (drop skip (read_views w r.rows)) code) o) is finds

pub returns-in-Some : goal.returns-in-Some
returns-in-Some c =
    let row = c.self.inside.pairs.row in
    let reads = table_views row c.self.inside.reads.items in
    let r = table_view row c.in_ok-read.read.now in
    let found = c.in-Some.found in
    let got : slice_get c.self.inside.reads.items c.args.tail.base ≡ Some c.in_ok-read.read.now = search (rules, slice_get_read) in
    let at = got_map (table_view row) c.self.inside.reads.items c.args.tail.base c.in_ok-read.read.now got in
    let linked = c.self.invariant.0.known.linked in
    let own = rw c.in-Some.is at (by_row row c.as_slice-row.result.now c.in_ok-read.read.now c.args.tail.skip c.args.code c.own.result c.as_slice-row.ensures c.own.ensures) in
    subst (λ (s : Stored). Finds s.decls (find_decl (tail_in s.tables c.args.tail) c.args.code) (Some found)) c.self.view_is (
      sym (own_found reads (whole_tables reads) linked c.args.tail.base r at c.args.tail.skip c.args.code (found_view found) (sym own.0)),
      own_stands (all_pairs reads) r found (linked c.args.tail.base r at).stands own.1,
    )

-- what is sought is sought behind the table's own declarations
behind : (c : After-saturating_sub-past) → find_decl (drop c.saturating_sub-past.result (end_in (whole_tables (table_views c.self.inside.pairs.row c.self.inside.reads.items)) c.in_ok-read.read.now.next)) c.args.code
    ≡ find_decl (tail_in c.args.self.now.tables c.args.tail) c.args.code
behind c =
    let row = c.self.inside.pairs.row in
    let reads = table_views row c.self.inside.reads.items in
    let r = table_view row c.in_ok-read.read.now in
    let got : slice_get c.self.inside.reads.items c.args.tail.base ≡ Some c.in_ok-read.read.now = search (rules, slice_get_read) in
    let at = got_map (table_view row) c.self.inside.reads.items c.args.tail.base c.in_ok-read.read.now got in
    let past : c.saturating_sub-past.result ≡ c.args.tail.skip - length r.table = omega (arith, c.saturating_sub-past.ensures, c.len.ensures.len, own_length row c.in_ok-read.read.now) in
    let none = rw c.in_default.is at (by_row row c.as_slice-row.result.now c.in_ok-read.read.now c.args.tail.skip c.args.code c.own.result c.as_slice-row.ensures c.own.ensures) in
    rw past
    (sym (none_own reads (whole_tables reads) c.self.invariant.0.known.linked c.args.tail.base r at c.args.tail.skip c.args.code (sym none))
    ∙ ap (λ (s : Stored). find_decl (tail_in s.tables c.args.tail) c.args.code) c.self.view_is)

pub returns-in_err-read-2 : goal.returns-in_err-read-2
returns-in_err-read-2 c =
    let none = no_more c.saturating_sub-past.result c.args.code (whole_tables (table_views c.self.inside.pairs.row c.self.inside.reads.items)) c.in_ok-read.read.now.next c.in_err-read-2.was in
    rw c.from_residual-in_err-read-2.ensures (sym (behind (goal.at.returns-in_err-read-2 c).After-saturating_sub-past) ∙ none)

pub find_past-requires-clause-linked : goal.find_past-requires-clause-linked
find_past-requires-clause-linked c = rw (c.as_slice.ensures.value, c.as_slice-row.ensures) c.self.invariant.0.known.linked

pub find_past-requires-clause-tail : goal.find_past-requires-clause-tail
find_past-requires-clause-tail c =
    let row = c.self.inside.pairs.row in
    let got : slice_get c.self.inside.reads.items c.args.tail.base ≡ Some c.in_ok-read.read.now = search (rules, slice_get_read) in
    let at = got_map (table_view row) c.self.inside.reads.items c.args.tail.base c.in_ok-read.read.now got in
    rw (c.as_slice.ensures.value, c.as_slice-row.ensures)
    ((c.self.invariant.0.known.linked c.args.tail.base (table_view row c.in_ok-read.read.now) at).next c.in_ok-read-2.field-0 c.in_ok-read-2.was)

pub find_past-requires-clause-row : goal.find_past-requires-clause-row
find_past-requires-clause-row c = rw (c.as_slice.ensures.value, c.as_slice-row.ensures) c.self.invariant.1

pub returns : goal.returns
returns c =
    let views = table_views c.self.inside.pairs.row c.self.inside.reads.items in
    let next = c.in_ok-read-2.field-0 in
    let past = c.saturating_sub-past.result in
    let here : table_views c.as_slice-row.result.now c.as_slice.result.now ≡ views =
    ap (λ (w : List Pair). table_views w c.as_slice.result.now) c.as_slice-row.ensures ∙ ap (table_views c.self.inside.pairs.row) c.as_slice.ensures.value in
    let found : Finds (all_pairs views) (find_decl (drop past (tail_in (whole_tables views) next)) c.args.code) c.find_past.result =
    subst (λ (vs : List TableView). Finds (all_pairs vs) (find_decl (drop past (tail_in (whole_tables vs) next)) c.args.code) c.find_past.result) here c.find_past.ensures in
    let same : find_decl (drop past (tail_in (whole_tables views) next)) c.args.code ≡ find_decl (tail_in c.args.self.now.tables c.args.tail) c.args.code =
    ap (λ (o : Option Tail). find_decl (drop past (end_in (whole_tables views) o)) c.args.code) (sym c.in_ok-read-2.was)
    ∙ behind (goal.at.returns c).After-saturating_sub-past in
    subst (λ (w : List (List Pair)). Finds w (find_decl (tail_in c.args.self.now.tables c.args.tail) c.args.code) c.find_past.result)
    (ap (λ (s : Stored). s.decls) c.self.view_is)
    (subst (λ (o : Option Declaration). Finds (all_pairs views) o c.find_past.result) same found)

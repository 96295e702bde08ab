-- The row of names and forms grows: what tables say stays.
use Rattle.std.proofs.Common.{◌≡◌, ℕ, zero, suc, ◌+◌, List, [], ◌∷◌, ◌++◌, drop, length, map, take, Some, refl, sym, ap, subst, ◌∙◌}
use Rattle.std.specs.Prelude.{All, slice_get}
use Rattle.std.proofs.lemmas.List.{length-map, map-append, map_push}
use Rattle.std.proofs.lemmas.List.Elements.{All-append, All-head, All-map, All-push, All-tail, All-weaker}
use Rattle.dwz_abbrev.specs.declared.read_decl.ReadDecl.{ReadDecl}
use Rattle.dwz_abbrev.specs.ReadViews.{pairs_in, read_view, read_views}
use Rattle.dwz_abbrev.specs.Written.{Begins}
use Rattle.dwz_abbrev.proofs.ReadLemmas.{reads_kept, within_kept}
use Rattle.dwz_def_reading.specs.Abbrevs.{Declaration, find_decl}
use Rattle.dwz_def_reading.proofs.ListFacts.{got_map}
use Rattle.dwz_model.specs.declared.place.Pair.{Pair}
use Rattle.dwz_unit.specs.declared.joined_table.JoinedTable.{JoinedTable}
use Rattle.dwz_unit.specs.declared.numbered.Numbered.{Numbered}
use Rattle.dwz_unit.specs.declared.flat_rows.Span.{Span}
use Rattle.dwz_unit.specs.Found.{FindsOwn, all_pairs, each_pairs}
use Rattle.dwz_unit.specs.RowViews.{spans_of}
use Rattle.dwz_unit.specs.Spans.{IsWithin, part_of}
use Rattle.dwz_unit.proofs.LinkLemmas.{pairs_push}
use Rattle.dwz_unit.specs.TableViews.{HasRow, HaveRow, TableView, table_view, table_views}

view_kept : (old new : List Pair) (r : JoinedTable) → Begins old new → HasRow old r → table_view new r ≡ table_view old r
view_kept old new r begins within = ap (λ (t : List Declaration). record { table = t; starts = r.starts.items; next = r.next; first = r.first }) (reads_kept old new r.rows begins within)

pub views_kept : (old new : List Pair) (reads : List JoinedTable) → Begins old new → HaveRow old reads → table_views new reads ≡ table_views old reads
views_kept old new [] begins within = refl
views_kept old new (r ∷ reads) begins within =
    ap (λ (v : TableView). v ∷ table_views new reads) (view_kept old new r begins (All-head (HasRow old) r reads within))
    ∙ ap (λ (vs : List TableView). table_view old r ∷ vs) (views_kept old new reads begins (All-tail (HasRow old) r reads within))

pub have_kept : (old new : List Pair) (reads : List JoinedTable) → Begins old new → HaveRow old reads → HaveRow new reads
have_kept old new reads begins within = All-weaker (HasRow old) (HasRow new) (λ r has. within_kept old new r.rows begins has) reads within

module _ (old new : List Pair) (reads all : List JoinedTable) (r : JoinedTable) (begins : Begins old new) (within : HaveRow old reads) (is : all ≡ reads ++ r ∷ []) where
  pub views_added : table_views new all ≡ table_views old reads ++ table_view new r ∷ []
  views_added = ap (table_views new) is ∙ map_push (table_view new) reads r ∙ ap (λ (vs : List TableView). vs ++ table_view new r ∷ []) (views_kept old new reads begins within)

  pub have_added : HasRow new r → HaveRow new all
  have_added has = subst (HaveRow new) (sym is) (All-push (HasRow new) reads r (have_kept old new reads begins within) has)

pub has_at : (row : List Pair) (reads : List JoinedTable) (n : ℕ) (r : JoinedTable) → HaveRow row reads → slice_get reads n ≡ Some r → HasRow row r
has_at row [] n r have at = absurd cc
has_at row (s ∷ reads) zero r have at =
    let same : s ≡ r = cc in
    subst (HasRow row) same (All-head (HasRow row) s reads have)
has_at row (s ∷ reads) (suc n) r have at = has_at row reads n r (All-tail (HasRow row) s reads have) at

-- a declaration of the table's own that was found
pub own_is : (row : List Pair) (r : JoinedTable) (place skip code : ℕ) (f : Numbered) → slice_get r.rows place ≡ Some f.decl.now → f.pairs.now ≡ pairs_in row f.decl.now → f.number ≡ r.first + place
    → slice_get (read_views row r.rows) place ≡ find_decl (drop skip (read_views row r.rows)) code
    → FindsOwn (table_view row r) (find_decl (drop skip (read_views row r.rows)) code) (Some f)
own_is row r place skip code f at pairs number found =
    let view = got_map (read_view row) r.rows place f.decl.now at in
    let there : slice_get (read_views row r.rows) place ≡ Some (record { code = f.decl.now.code; tag = f.decl.now.tag; children = f.decl.now.children; pairs = f.pairs.now }) =
    view ∙ ap (λ (ps : List Pair). Some (record { code = f.decl.now.code; tag = f.decl.now.tag; children = f.decl.now.children; pairs = ps })) (sym pairs) in
    (sym found ∙ there, record { place = place; there = there; number = number })

pub own_length : (row : List Pair) (r : JoinedTable) → length (table_view row r).table ≡ length r.rows
own_length row r = length-map r.rows (read_view row)

-- ---- where the names and forms of declarations are

spans_pairs : (row : List Pair) (decls : List ReadDecl) → map (part_of row) (spans_of decls) ≡ each_pairs (read_views row decls)
spans_pairs row [] = refl
spans_pairs row (d ∷ decls) = ap (λ (w : List (List Pair)). pairs_in row d ∷ w) (spans_pairs row decls)

pub spans_more : (row : List Pair) (reads : List JoinedTable) (i : ℕ) (r : JoinedTable) (spans new : List Span) → take (i + 1) reads ≡ take i reads ++ r ∷ []
    → map (part_of row) spans ≡ all_pairs (table_views row (take i reads)) → new ≡ spans ++ spans_of r.rows
    → map (part_of row) new ≡ all_pairs (table_views row (take (i + 1) reads))
spans_more row reads i r spans new more so_far is =
    ap (map (part_of row)) is
    ∙ map-append (part_of row) spans (spans_of r.rows)
    ∙ ap (λ (w : List (List Pair)). w ++ map (part_of row) (spans_of r.rows)) so_far
    ∙ ap (λ (w : List (List Pair)). all_pairs (table_views row (take i reads)) ++ w) (spans_pairs row r.rows)
    ∙ sym (pairs_push (table_views row (take i reads)) (table_views row (take (i + 1) reads)) (table_view row r)
    (ap (table_views row) more ∙ map_push (table_view row) (take i reads) r))

pub spans_within : (row : List Pair) (r : JoinedTable) (spans new : List Span) → HasRow row r → All (IsWithin (length row)) spans → new ≡ spans ++ spans_of r.rows → All (IsWithin (length row)) new
spans_within row r spans new has within is =
    subst (All (IsWithin (length row))) (sym is) (All-append (IsWithin (length row)) spans (spans_of r.rows) within
    (All-map (IsWithin (length row)) (λ (d : ReadDecl). record { first = d.first; count = d.count }) r.rows has))

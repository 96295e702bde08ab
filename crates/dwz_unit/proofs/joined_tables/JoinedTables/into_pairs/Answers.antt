use Rattle.std.proofs.Common.{◌≡◌, ◌+◌, ◌++◌, ◌∷◌, [], List, map, take, Some, sym, ap, ◌∙◌}
use Rattle.std.specs.Prelude.{slice_get}
use Rattle.std.proofs.lemmas.List.{take_all, take_more}
use Rattle.std.proofs.lemmas.Option.{slice_get-get_or}
use Rattle.dwz_abbrev.specs.declared.read_decl.ReadDecl.{ReadDecl}
use Rattle.dwz_unit.specs.declared.joined_table.JoinedTable.{JoinedTable}
use Rattle.dwz_model.specs.declared.place.Pair.{Pair}
use Rattle.dwz_unit.specs.Found.{all_pairs}
use Rattle.dwz_unit.specs.RowViews.{spans_of}
use Rattle.dwz_unit.specs.Spans.{part_of}
use Rattle.dwz_unit.specs.TableViews.{table_views}
use Rattle.dwz_unit.specs.Tables.{Stored}
use Rattle.dwz_unit.proofs.TableRowLemmas.{has_at, spans_more, spans_within}
use Rattle.dwz_unit.proofs.joined_tables.JoinedTables.into_pairs.Goals as goal

pub loop-read-preserved : goal.loop-read-preserved
loop-read-preserved c =
    let row = c.self.inside.pairs.row in
    let reads = c.as_slice-read-items.result.now in
    let i = c.loop-read.read-index in
    let r = c.read-item.result in
    let spans = c.loop-read.spans.items in
    let new = c.put_spans.new.spans.items in
    let more : take (i + 1) reads ≡ take i reads ++ r ∷ [] = take_more reads i r c.loop-read-test.true ∙ ap (λ (e : JoinedTable). take i reads ++ e ∷ []) (sym c.read-item.is) in
    let is : new ≡ spans ++ spans_of r.rows = c.in_ok-put_spans.ensures ∙ ap (λ (ds : List ReadDecl). spans ++ spans_of ds) c.as_slice.ensures in
    let at : slice_get c.self.inside.reads.items i ≡ Some r =
    ap (λ (w : List JoinedTable). slice_get w i) (sym c.as_slice-read-items.ensures.value)
    ∙ slice_get-get_or reads i r c.loop-read-test.true
    ∙ ap (λ (e : JoinedTable). Some e) (sym c.read-item.is) in
    record {
      pairs = spans_more row reads i r spans new more c.loop-read.invariant.pairs is;
      within = spans_within row r spans new (has_at row c.self.inside.reads.items i r c.self.invariant.1 at) c.loop-read.invariant.within is;
    }

pub from_parts-requires : goal.from_parts-requires
from_parts-requires c = rw c.into_row.ensures c.loop-read.invariant.within

pub returns : goal.returns
returns c =
    let row = c.self.inside.pairs.row in
    c.from_parts.ensures
    ∙ ap (λ (w : List Pair). map (part_of w) c.loop-read.spans.items) c.into_row.ensures
    ∙ c.loop-read.invariant.pairs
    ∙ ap (λ (reads : List JoinedTable). all_pairs (table_views row reads)) (take_all c.loop-read.read-index c.as_slice-read-items.result.now c.loop-read-test.false ∙ c.as_slice-read-items.ensures.value)
    ∙ ap (λ (s : Stored). s.decls) c.self.view_is

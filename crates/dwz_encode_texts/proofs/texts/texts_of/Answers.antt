use Rattle.std.proofs.Common.{◌≡◌, ◌++◌, ◌∙◌, ap, sym, arith}
use Rattle.dwz_unit.specs.Rows.{rows_of, units_of}
use Rattle.dwz_graph.specs.Resolved.{around}
use Rattle.dwz_unit.proofs.RowsFound.{row_there, rows-length}
use Rattle.dwz_graph.proofs.RowUnits.{unit_within}
use Rattle.dwz_encode_texts.specs.Texts.{own_texts, row_texts, slots_base_at}
use Rattle.dwz_encode_texts.proofs.RowUnits.{base_there, bases_many, shown_unit}
use Rattle.dwz_encode_texts.proofs.TextSteps.{flat_all, flat_more}
use Rattle.dwz_encode_texts.proofs.texts.texts_of.Goals as goal

pub index-base-requires : goal.index-base-requires
index-base-requires c =
    let raw = units_of c.args.units.now in
    let s = around c.args.sections.now raw in
    let r = row_there raw c.loop-i.i (omega (arith, c.loop-i-test.true, c.entries-i-end.ensures)) in
    let same = shown_unit raw c.loop-i.i c.entry.result r.0 c.entry.ensures.entry r.1 in
    let within = unit_within raw c.loop-i.i r.0 r.1 in
    let many = bases_many s raw c.in_ok-bases.bases.items (c.in_ok-bases.ensures s) in
    omega (arith, c.in_ok-bases.bases.ok.0)

pub loop-i-preserved : goal.loop-i-preserved
loop-i-preserved c =
    let raw = units_of c.args.units.now in
    let s = around c.args.sections.now raw in
    let r = row_there raw c.loop-i.i (omega (arith, c.loop-i-test.true, c.entries-i-end.ensures)) in
    let same = shown_unit raw c.loop-i.i c.entry.result r.0 c.entry.ensures.entry r.1 in
    let within = unit_within raw c.loop-i.i r.0 r.1 in
    let base : c.index-base.result.now ≡ slots_base_at s raw r.0.unit =
    c.index-base.ensures
    ∙ base_there s raw c.in_ok-bases.bases.items (c.in_ok-bases.ensures s) c.entry.result.unit c.index-base.result.now (omega arith)
    ∙ ap (slots_base_at s raw) (sym same) in
    c.in_ok-put_texts.ensures r.0 r.1
    ∙ (λ i. c.loop-i.invariant i ++ own_texts s.sources.offsets (base i) r.0.entry.attrs)
    ∙ sym (flat_more (row_texts s raw) (rows_of raw) c.loop-i.i r.0 r.1)

pub returns : goal.returns
returns c =
    let raw = units_of c.args.units.now in
    let many = rows-length raw in
    flat_all (row_texts (around c.args.sections.now raw) raw) (rows_of raw) c.loop-i.i c.loop-i.texts.items (omega (arith, c.loop-i-test.false, c.entries-i-end.ensures)) c.loop-i.invariant

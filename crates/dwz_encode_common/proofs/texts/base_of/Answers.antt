use Rattle.std.proofs.Common.{◌∙◌, ap, sym, arith}
use Rattle.dwz_unit.specs.Rows.{units_of}
use Rattle.dwz_graph.specs.Resolved.{around}
use Rattle.dwz_unit.proofs.RowsFound.{row_there}
use Rattle.dwz_graph.proofs.RowUnits.{unit_within}
use Rattle.dwz_encode_texts.proofs.RowUnits.{base_there, bases_many, shown_unit}
use Rattle.dwz_encode_common.specs.Stored.{slots_base_at}
use Rattle.dwz_encode_common.proofs.texts.base_of.Goals as goal

pub bounds-place-entry : goal.bounds-place-entry
bounds-place-entry c =
    let p = c.args.place.now in
    let raw = units_of p.units.now in
    let s = around p.sections.now raw in
    let r = row_there raw p.entry c.requires.entry in
    let same = shown_unit raw p.entry c.entry.result r.0 c.entry.ensures.entry r.1 in
    let within = unit_within raw p.entry r.0 r.1 in
    let many = bases_many s raw p.bases.now c.requires.bases in
    omega arith

pub returns : goal.returns
returns c = λ row found. (
    let p = c.args.place.now in
    let raw = units_of p.units.now in
    let s = around p.sections.now raw in
    let same = shown_unit raw p.entry c.entry.result row c.entry.ensures.entry found in
    let within = unit_within raw p.entry row found in
    base_there s raw p.bases.now c.requires.bases c.entry.result.unit _ (omega arith) ∙ ap (slots_base_at raw) (sym same))

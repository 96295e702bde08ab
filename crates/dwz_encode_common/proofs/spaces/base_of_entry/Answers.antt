use Rattle.std.proofs.Common.{◌∙◌, ap, slice_get, sym, arith}
use Rattle.std.specs.Option.{option_and_then}
use Rattle.dwz_unit.specs.Rows.{units_of}
use Rattle.dwz_unit.proofs.RowsFound.{row_there}
use Rattle.dwz_unit.proofs.UnitThere.{unit_ends, unit_there}
use Rattle.dwz_graph.proofs.RowUnits.{unit_within}
use Rattle.dwz_encode_texts.proofs.RowUnits.{shown_unit}
use Rattle.dwz_encode_common.specs.Stored.{slots_base}
use Rattle.dwz_encode_common.proofs.spaces.base_of_entry.Goals as goal

pub unit-unit-requires : goal.unit-unit-requires
unit-unit-requires c =
    let raw = units_of c.args.units.now in
    let r = row_there raw c.args.entry c.requires in
    let same = shown_unit raw c.args.entry c.entry-number.result r.0 c.entry-number.ensures.entry r.1 in
    let within = unit_within raw c.args.entry r.0 r.1 in
    omega arith

pub here_of-requires : goal.here_of-requires
here_of-requires c =
    let raw = units_of c.args.units.now in
    let n = c.entry-number.result.unit in
    let t = unit_there raw n c.unit-unit.result c.unit-unit.ensures in
    let within = unit_ends raw n c.unit-unit.result t in
    omega arith

pub returns : goal.returns
returns c = λ row found. (
    let raw = units_of c.args.units.now in
    let same = shown_unit raw c.args.entry c.entry-number.result row c.entry-number.ensures.entry found in
    let h = c.here_of.ensures c.unit-unit.ensures in
    h.here.base ∙ sym (ap (option_and_then slots_base) (ap (slice_get raw) same ∙ h.is_unit)))

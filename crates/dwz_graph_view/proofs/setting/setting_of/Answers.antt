use Rattle.std.proofs.Common.{◌≡◌, List, slice_get, ap, refl, subst, sym, ◌∙◌, arith}
use Rattle.dwz_def_reading.specs.Files.{around_of}
use Rattle.dwz_def_reading.specs.LineTables.{FileTable}
use Rattle.dwz_def_reading.specs.Meanings.{scope_of}
use Rattle.dwz_def_reading.proofs.ListFacts.{item_got}
use Rattle.dwz_unit.proofs.RowsFound.{row_is}
use Rattle.dwz_graph.proofs.UnitBuilding.{root_within}
use Rattle.dwz_label_entries.specs.Plain.{KnowsLine}
use Rattle.dwz_unit.specs.Rows.{units_of}
use Rattle.dwz_unit.specs.declared.rows.RawEntry.{RawEntry as EntryOfCode}
use Rattle.dwz_graph_view.proofs.SettingSteps.{known, lines_known, unit_low}
use Rattle.dwz_graph_view.proofs.setting.setting_of.Goals as goal

pub index-requires : goal.index-requires
index-requires c =
    let f = c.args.file.now in
    let low = unit_low (units_of f.units) c.args.entry c.entry-unit.result c.entry-unit.ensures.entry in
    let many = c.requires.file.3.lines.many in
    let long = f.resolved.lines.ok.0 in
    omega arith

pub unit-requires : goal.unit-requires
unit-requires c = unit_low (units_of c.args.file.now.units) c.args.entry c.entry-unit.result c.entry-unit.ensures.entry

pub here_of-requires : goal.here_of-requires
here_of-requires c = root_within (units_of c.args.file.now.units) c.entry-unit.result.unit c.unit.result c.unit.ensures

pub returns : goal.returns
returns c = λ l k bytes row u read found is. (
    let f = c.args.file.now in
    let raw = units_of f.units in
    let x = c.entry-unit.result in
    let same : row.unit ≡ x.unit = ap (λ (w : EntryOfCode). w.unit) (row_is raw c.args.entry x row c.entry-unit.ensures.entry found) in
    let is_unit = ap (slice_get raw) (sym same) ∙ is in
    let lines = f.resolved.lines.items in
    let many = read.lines.many in
    let low = unit_low raw c.args.entry x c.entry-unit.ensures.entry in
    let line = c.index.result.now in
    let line_is = item_got lines x.unit line (omega (arith, many, low)) c.index.ensures in
    record {
      file = refl;
      knows = known l k bytes f read x.unit u is_unit _ c.unit.result (c.here_of.ensures c.unit.ensures) refl;
      line = λ j a got. subst (λ (w : List FileTable). KnowsLine (scope_of (around_of bytes raw) u) a w line) (sym c.as_slice.ensures.value)
          (lines_known l k bytes f read x.unit u is_unit c.args.entry row line j a found same line_is got);
    })

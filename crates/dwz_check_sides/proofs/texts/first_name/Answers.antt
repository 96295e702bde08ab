use Rattle.std.proofs.Common.{◌≡◌, ◌<◌, None, Some, length, sym, subst, ◌∙◌}
use Rattle.dwz_def_reading.specs.Entries.{RawAttr}
use Rattle.dwz_def_reading.specs.Meanings.{MeansValue}
use Rattle.dwz_graph.proofs.RowUnits.{unit_within}
use Rattle.dwz_graph.proofs.UnitBuilding.{root_within}
use Rattle.dwz_unit.proofs.RowsFound.{entry_row}
use Rattle.dwz_unit.specs.declared.rows.RawEntry.{RawEntry}
use Rattle.dwz_unit.specs.Rows.{attr_view, units_of}
use Rattle.dwz_check_sides.proofs.NameTexts.{has_text, is_scope, row, row_found, scope}
use Rattle.dwz_check_sides.proofs.texts.first_name.Goals as goal

pub unit-requires : goal.unit-requires
unit-requires c =
    let raw = units_of c.args.side.now.file.now.units in
    let r = entry_row raw c.args.entry c.entry-number.result c.entry-number.ensures.entry in
    subst (λ (w : RawEntry). w.unit < length raw) r.2 (unit_within raw c.args.entry r.0 r.1)

pub here_of-here-requires : goal.here_of-here-requires
here_of-here-requires c = root_within (units_of c.args.side.now.file.now.units) c.entry-number.result.unit c.unit.result c.unit.ensures

pub returns-in-None : goal.returns-in-None
returns-in-None c = λ said starts e text side got is. (
    let s = c.args.side.now in
    let h = has_text s said starts side c.args.entry e got text is in
    let none : None ≡ Some h.attr = c.in-None.ensures.first (row s said starts side c.args.entry e got) (row_found s said starts side c.args.entry e got) ∙ h.first in
    absurd cc)

pub returns-in-Some : goal.returns-in-Some
returns-in-Some c = λ said starts e text side got is. (
    let s = c.args.side.now in
    let h = has_text s said starts side c.args.entry e got text is in
    let both : Some (attr_view c.in-Some.attr) ≡ Some h.attr = c.in-Some.ensures.first (row s said starts side c.args.entry e got) (row_found s said starts side c.args.entry e got) ∙ h.first in
    let same : attr_view c.in-Some.attr ≡ h.attr = cc in
    let m = scope s said starts side c.args.entry e got in
    let own = is_scope s said starts side c.args.entry e got c.entry-number.result c.unit.result c.here_of-here.result c.entry-number.ensures.entry (c.here_of-here.ensures c.unit.ensures) in
    c.text_of.ensures m h.value text own (subst (λ (a : RawAttr). MeansValue m a h.value) (sym same) h.means) h.is)

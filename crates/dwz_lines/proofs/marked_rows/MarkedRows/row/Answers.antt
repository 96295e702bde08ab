use Rattle.std.proofs.Common.{◌<◌, All, List, sym, ap, subst, ◌∙◌, slice_get, arith}
use Rattle.dwz_def_reading.specs.LineTables.{PathRow}
use Rattle.dwz_lines.specs.declared.marked_rows.Mark.{Mark}
use Rattle.dwz_lines.specs.Marks.{IsMark}
use Rattle.dwz_lines.specs.RowViews.{item_of}
use Rattle.dwz_lines.proofs.MarkLemmas.{stands_first, stands_listed}
use Rattle.dwz_lines.proofs.marked_rows.MarkedRows.row.Goals as goal

pub returns : goal.returns
returns c =
    let item = item_of c.self.inside.reader in
    let begin = c.self.inside.begin in
    let mark = c.nearest-mark.result in
    let lt : c.args.index < c.self.inside.count = omega (arith, c.if-index-self.false) in
    let each : All (IsMark item begin) c.deref.result.now = subst (λ (w : List Mark). All (IsMark item begin) w) (sym c.deref.ensures.value) c.self.invariant.each in
    let stands = c.nearest-mark.ensures.mark item (stands_first item begin) each in
    c.behind.ensures
    ∙ stands_listed item begin mark.begin mark.number c.args.index c.self.inside.count stands c.nearest-mark.ensures.before lt
    ∙ ap (λ (rows : List PathRow). slice_get rows c.args.index) c.self.view_is

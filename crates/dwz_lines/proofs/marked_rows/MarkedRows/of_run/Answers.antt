use Rattle.std.proofs.Common.{List, Some, sym, ap, subst, ◌∙◌, All}
use Rattle.dwz_bytes.specs.Input.{Input}
use Rattle.dwz_def_reading.specs.LineTables.{PathRow}
use Rattle.dwz_lines.specs.Marks.{IsMark, rows_up_to}
use Rattle.dwz_lines.specs.Reading.{times_in}
use Rattle.dwz_lines.specs.RowViews.{item_of}
use Rattle.dwz_lines.proofs.MarkLemmas.{listed}
use Rattle.dwz_lines.proofs.PassLemmas.{times_len}
use Rattle.dwz_lines.proofs.marked_rows.MarkedRows.of_run.Goals as goal

pub invariant_of-result : goal.invariant_of-result
invariant_of-result c =
    let item = item_of c.args.reader in
    let begin = c.again-begin.result in
    let s = c.requires.skips in
    let read = ap (λ (j : Input). times_in item c.args.count j) c.again-begin.ensures ∙ s.read in
    let rows = listed item c.args.count begin s.items c.args.run.end read in
    let all = read ∙ ap (λ (w : List PathRow). Some (w, c.args.run.end)) (sym rows) in
    record {
      all = times_len item c.args.count begin (rows_up_to item c.args.count begin, c.args.run.end) all;
      each = subst (λ (i : Input). All (IsMark item i) c.args.run.marks.items) (sym c.again-begin.ensures) c.requires.marks;
    }

pub returns : goal.returns
returns c =
    let item = item_of c.args.reader in
    let begin = c.again-begin.result in
    let s = c.requires.skips in
    let read = ap (λ (j : Input). times_in item c.args.count j) c.again-begin.ensures ∙ s.read in
    let rows = listed item c.args.count begin s.items c.args.run.end read in
    s.read ∙ ap (λ (w : List PathRow). Some (w, c.args.run.end)) (sym rows)

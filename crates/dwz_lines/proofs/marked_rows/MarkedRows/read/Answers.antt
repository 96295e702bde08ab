use Rattle.std.proofs.Common.{refl, sym, ap, ◌∙◌}
use Rattle.std.proofs.lemmas.List.Elements.{All-nil}
use Rattle.dwz_bytes.specs.Input.{Input}
use Rattle.dwz_lines.specs.Marks.{IsMark, rows_up_to}
use Rattle.dwz_lines.specs.Reading.{times_in}
use Rattle.dwz_lines.specs.RowViews.{item_of, row_view}
use Rattle.dwz_lines.proofs.MarkLemmas.{read_all, read_from, read_none, read_one, stands_from, stands_next}
use Rattle.dwz_lines.proofs.PassLemmas.{times_len}
use Rattle.dwz_lines.proofs.marked_rows.MarkedRows.read.Goals as goal

pub loop-number-init : goal.loop-number-init
loop-number-init c =
    let item = item_of c.args.reader in
    let begin = c.again-begin.result in
    record {
      read = read_from item c.args.count begin c.args.cursor.now c.again-begin.ensures;
      stands = stands_from item begin c.args.cursor.now c.again-begin.ensures;
      marks = rw c.new-marks.ensures.items (All-nil (IsMark item begin));
    }

pub returns-in_default : goal.returns-in_default
returns-in_default c =
    let item = item_of c.args.reader in
    let rows = rows_up_to item c.args.count c.again-begin.result in
    (refl, ap (λ (j : Input). times_in item c.args.count j) (sym c.again-begin.ensures) ∙ c.loop-number.invariant.read ∙ read_none item rows c.args.count c.loop-number.number c.loop-number.cursor c.loop-number-test.true c.in_default.ensures)

pub loop-number-preserved : goal.loop-number-preserved
loop-number-preserved c =
    let item = item_of c.args.reader in
    let begin = c.again-begin.result in
    let rows = rows_up_to item c.args.count begin in
    let i = c.loop-number.invariant in
    record {
      read = i.read ∙ read_one item rows c.args.count c.loop-number.number c.loop-number.cursor c.loop-number-test.true (row_view c.in-Some._row) c.next.new.cursor c.in-Some.ensures;
      stands = stands_next item begin c.loop-number.cursor c.loop-number.number i.stands (row_view c.in-Some._row) c.next.new.cursor c.in-Some.ensures;
      marks = c.in_ok-put_mark.ensures item i.stands i.marks;
    }

pub invariant_of-result : goal.invariant_of-result
invariant_of-result c =
    let item = item_of c.args.reader in
    let begin = c.again-begin.result in
    let rows = rows_up_to item c.args.count begin in
    let i = c.loop-number.invariant in
    let read = i.read ∙ read_all item rows c.args.count c.loop-number.number c.loop-number.cursor c.loop-number-test.false in
    record { all = times_len item c.args.count begin (rows, c.loop-number.cursor) read; each = i.marks }

pub returns : goal.returns
returns c =
    let item = item_of c.args.reader in
    let begin = c.again-begin.result in
    let rows = rows_up_to item c.args.count begin in
    ap (λ (j : Input). times_in item c.args.count j) (sym c.again-begin.ensures)
    ∙ c.loop-number.invariant.read
    ∙ read_all item rows c.args.count c.loop-number.number c.loop-number.cursor c.loop-number-test.false

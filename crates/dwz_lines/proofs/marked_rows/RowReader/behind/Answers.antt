use Rattle.std.proofs.Common.{◌-◌, sym, ◌∙◌}
use Rattle.dwz_lines.specs.RowViews.{item_of, row_view}
use Rattle.dwz_lines.proofs.MarkLemmas.{found_last, skip_none, skip_one}
use Rattle.dwz_lines.proofs.marked_rows.RowReader.behind.Goals as goal

pub returns-in_default : goal.returns-in_default
returns-in_default c =
    let n = c.loop-number._number in
    sym (skip_none (item_of c.args.self.now) (c.args.skipped - n) c.loop-number.cursor c.in_default.ensures) ∙ c.loop-number.invariant

pub loop-number-preserved : goal.loop-number-preserved
loop-number-preserved c =
    let step = skip_one (item_of c.args.self.now) c.args.skipped c.loop-number._number c.loop-number.cursor c.loop-number-test.true (row_view c.in-Some._row) c.next.new.cursor c.in-Some.ensures in
    sym step ∙ c.loop-number.invariant

pub returns : goal.returns
returns c =
    let last = found_last (item_of c.args.self.now) row_view c.next-2.new.cursor c.next-2.result c.args.skipped c.loop-number._number c.loop-number.cursor c.loop-number-test.false c.next-2.ensures in
    last ∙ c.loop-number.invariant

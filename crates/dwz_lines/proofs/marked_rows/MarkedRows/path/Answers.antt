use Rattle.std.proofs.Common.{sym}
use Rattle.dwz_lines.specs.RowViews.{row_view}
use Rattle.dwz_lines.proofs.MarkLemmas.{no_path, some_path}
use Rattle.dwz_lines.proofs.marked_rows.MarkedRows.path.Goals as goal

pub returns-in-Some : goal.returns-in-Some
returns-in-Some c = sym (some_path c.args.self.now c.args.index (row_view c.in-Some.row) (sym c.in-Some.ensures))

pub returns-in-None : goal.returns-in-None
returns-in-None c = sym (no_path c.args.self.now c.args.index (sym c.in-None.ensures))

use Rattle.std.proofs.lemmas.Result.{err_from_is_err_and}
use Rattle.dwz_lines.specs.TableViews.{sections}
use Rattle.dwz_lines.specs.MarkedViews.{marked_dirs_view}
use Rattle.dwz_lines.proofs.FileLemmas.{all_there, misses_fails, no_dirs, no_files, no_table, tries_answers}
use Rattle.dwz_lines.proofs.LocalLemmas.{part_dirs, part_tables}
use Rattle.dwz_lines.proofs.marked_table.MarkedTable.read.Goals as goal

pub read_directories-requires-clause-part : goal.read_directories-requires-clause-part
read_directories-requires-clause-part c = part_tables c.args.line.now c.args.at c.in-Some.cursor c.in-Some.ensures

pub read_files-requires-clause-part : goal.read_files-requires-clause-part
read_files-requires-clause-part c =
    part_dirs (sections c.args.strs.now c.args.line_strs.now) c.args.line.now c.args.at c.in-Some.cursor c.read_directories.new.cursor (marked_dirs_view c.in_ok-dirs.dirs) c.in_ok-dirs.ensures.dirs
    (part_tables c.args.line.now c.args.at c.in-Some.cursor c.in-Some.ensures)

pub returns-in_default-clause-table : goal.returns-in_default-clause-table
returns-in_default-clause-table c = rw c.bad_at-bad.ensures (no_table (sections c.args.strs.now c.args.line_strs.now) c.args.line.now c.args.at c.in_default.ensures)

pub returns-in_err-dirs-clause-table : goal.returns-in_err-dirs-clause-table
returns-in_err-dirs-clause-table c =
    let p = err_from_is_err_and c.from_residual.result c.from_residual.ensures.1 in
    let missed = rw c.bad_at-bad.ensures at c.in_err-dirs.ensures.dirs in
    rw (p.1, p.2) (misses_fails _ c.in_err-dirs.field-0.0 _ _ (no_dirs (sections c.args.strs.now c.args.line_strs.now) c.args.line.now c.args.at c.in-Some.cursor c.in-Some.ensures) missed)

pub returns-clause-table : goal.returns-clause-table
returns-clause-table c =
    let s = sections c.args.strs.now c.args.line_strs.now in
    let read = rw c.bad_at-bad.ensures at c.read_files.ensures.table in
    tries_answers _ c.read_files.new.cursor c.read_files.result _ _
    (all_there s c.args.line.now c.args.at c.in-Some.cursor c.in-Some.ensures (marked_dirs_view c.in_ok-dirs.dirs) c.read_directories.new.cursor c.in_ok-dirs.ensures.dirs)
    (no_files s c.args.line.now c.args.at c.in-Some.cursor c.in-Some.ensures (marked_dirs_view c.in_ok-dirs.dirs) c.read_directories.new.cursor c.in_ok-dirs.ensures.dirs)
    read

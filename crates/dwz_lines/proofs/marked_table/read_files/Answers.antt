use Rattle.std.proofs.Common.{◌≡◌, ℕ, List, length, map, sym, ap, ◌∙◌}
use Rattle.std.specs.Prelude.{◌||◌}
use Rattle.std.proofs.lemmas.List.{length-map}
use Rattle.std.proofs.lemmas.Result.{err_from_is_err_and}
use Rattle.dwz_def_reading.specs.LineTables.{names_strs}
use Rattle.dwz_lines.specs.declared.formats.Format.{Format}
use Rattle.dwz_lines.specs.MarkedViews.{marked_dirs_view}
use Rattle.dwz_lines.specs.Reading.{has_dir, path_of, rows_in}
use Rattle.dwz_lines.specs.RowViews.{strings_view}
use Rattle.dwz_lines.specs.Views.{format_views}
use Rattle.dwz_lines.proofs.FileLemmas.{files_there, misses_same, no_rows}
use Rattle.dwz_lines.proofs.LocalLemmas.{part_count, part_formats}
use Rattle.dwz_lines.proofs.marked_table.read_files.Goals as goal

pub read_or_known-requires-clause-part : goal.read_or_known-requires-clause-part
read_or_known-requires-clause-part c =
    let line = c.args.table.line.now in
    let start = c.args.table.start in
    let formats = part_formats line start c.args.cursor.now c.formats.new.cursor (format_views c.in_ok-formats.formats.items) c.in_ok-formats.ensures c.requires.part in
    part_count line start c.formats.new.cursor c.uleb.new.self c.in-Ok.count c.in-Ok.ensures formats

pub returns-in_err-files-clause-table : goal.returns-in_err-files-clause-table
unfolding rows_in
returns-in_err-files-clause-table c =
    let p = err_from_is_err_and c.from_residual-in_err-files.result c.from_residual-in_err-files.ensures.1 in
    let dirs = c.args.dirs.rows in
    let many : length (map path_of dirs) ≡ c.len-many.result = length-map dirs path_of ∙ sym c.len-many.ensures in
    let some = ap (λ (n : ℕ). has_dir c.in-Ok.count n) many ∙ sym c.if-not-has_dir.ensures in
    let missed = rw (sym many) at c.in_err-files.ensures.read in
    rw (p.1, p.2) (misses_same c.args.bad c.in_err-files.field-0.0 _ _
    (no_rows (strings_view c.args.strings) (marked_dirs_view c.args.dirs) c.args.cursor.now c.formats.new.cursor c.uleb.new.self (format_views c.in_ok-formats.formats.items) c.in-Ok.count
    c.in_ok-formats.ensures c.in-Ok.ensures some)
    missed)

pub returns-clause-table : goal.returns-clause-table
unfolding rows_in
returns-clause-table c =
    let dirs = c.args.dirs.rows in
    let many : length (map path_of dirs) ≡ c.len-many.result = length-map dirs path_of ∙ sym c.len-many.ensures in
    let some = ap (λ (n : ℕ). has_dir c.in-Ok.count n) many ∙ sym c.if-not-has_dir.ensures in
    let strp = c.either-has_strp.ensures ∙ ap (λ b. c.args.dirs.strp || b) (c.names_strs.ensures ∙ ap (λ (w : List Format). names_strs (format_views w)) c.deref.ensures.value) in
    let read = rw (sym many) at c.in_ok-files.ensures.read in
    files_there (strings_view c.args.strings) (marked_dirs_view c.args.dirs) c.args.cursor.now c.formats.new.cursor c.uleb.new.self (format_views c.in_ok-formats.formats.items) c.in-Ok.count
    c.in_ok-formats.ensures c.in-Ok.ensures some
    c.in_ok-files.files c.read_or_known.new.cursor c.either-has_strp.result read strp

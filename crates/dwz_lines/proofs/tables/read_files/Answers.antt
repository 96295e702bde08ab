use Rattle.std.proofs.Common.{◌≡◌, ℕ, List, Bor, length, map, sym, ap, ◌∙◌, arith}
use Rattle.std.specs.Prelude.{◌||◌}
use Rattle.std.proofs.lemmas.List.{length-map}
use Rattle.std.proofs.lemmas.Result.{err_from_is_err_and}
use Rattle.dwz_def_reading.specs.LineTables.{names_strs}
use Rattle.dwz_lines.specs.declared.formats.Format.{Format}
use Rattle.dwz_lines.specs.Reading.{has_dir}
use Rattle.dwz_lines.specs.RowViews.{row_view, strings_view}
use Rattle.dwz_lines.specs.TableViews.{dirs_view}
use Rattle.dwz_lines.specs.Views.{format_views}
use Rattle.dwz_lines.proofs.FileLemmas.{files_there, misses_same, no_rows}
use Rattle.dwz_lines.proofs.tables.read_files.Goals as goal

pub returns-in_err-rows : goal.returns-in_err-rows
returns-in_err-rows c =
    let p = err_from_is_err_and c.from_residual-in_err-rows.result c.from_residual-in_err-rows.ensures.1 in
    let dirs = c.args.dirs.paths in
    let many : length (map (λ (d : Bor (List ℕ)). d.now) dirs.items) ≡ c.len-many.result = omega (arith, length-map dirs.items (λ (d : Bor (List ℕ)). d.now), c.len-many.ensures, dirs.ok.0) in
    let some = ap (λ (n : ℕ). has_dir c.in-Ok.count n) many ∙ sym c.if-not-has_dir.ensures in
    let missed = rw (c.deref.ensures.value, sym many) at c.in_err-rows.ensures in
    rw (p.1, p.2) (misses_same c.args.bad c.in_err-rows.field-0.0 _ _
    (no_rows (strings_view c.args.strings) (dirs_view c.args.dirs) c.args.cursor.now c.formats.new.cursor c.uleb.new.self (format_views c.in_ok-formats.formats.items) c.in-Ok.count
    c.in_ok-formats.ensures c.in-Ok.ensures some)
    missed)

pub returns : goal.returns
returns c =
    let dirs = c.args.dirs.paths in
    let many : length (map (λ (d : Bor (List ℕ)). d.now) dirs.items) ≡ c.len-many.result = omega (arith, length-map dirs.items (λ (d : Bor (List ℕ)). d.now), c.len-many.ensures, dirs.ok.0) in
    let some = ap (λ (n : ℕ). has_dir c.in-Ok.count n) many ∙ sym c.if-not-has_dir.ensures in
    let strp = c.either-has_strp.ensures ∙ ap (λ b. c.args.dirs.strp || b) (c.names_strs.ensures ∙ ap (λ (w : List Format). names_strs (format_views w)) c.deref-2.ensures.value) in
    let read = rw (c.deref.ensures.value, sym many) at c.in_ok-rows.ensures in
    files_there (strings_view c.args.strings) (dirs_view c.args.dirs) c.args.cursor.now c.formats.new.cursor c.uleb.new.self (format_views c.in_ok-formats.formats.items) c.in-Ok.count
    c.in_ok-formats.ensures c.in-Ok.ensures some
    (map row_view c.in_ok-rows.rows.items) c.rows_of_files.new.cursor c.either-has_strp.result read strp

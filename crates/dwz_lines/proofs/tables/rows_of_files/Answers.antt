use Rattle.std.proofs.Common.{◌+◌, ◌-◌, List, [], ◌∷◌, map, refl, sym, ap, ◌∙◌}
use Rattle.std.proofs.lemmas.List.{map-append}
use Rattle.dwz_lines.specs.declared.rows.Row.{Row}
use Rattle.dwz_def_reading.specs.LineTables.{PathRow}
use Rattle.dwz_lines.specs.Reading.{row_in}
use Rattle.dwz_lines.specs.RowViews.{row_view, strings_view}
use Rattle.dwz_lines.specs.Views.{format_views}
use Rattle.dwz_lines.proofs.FileLemmas.{rows_into}
use Rattle.dwz_lines.proofs.LoopLemmas.{all_read, none_read, one_read, times_into}
use Rattle.dwz_lines.proofs.tables.rows_of_files.Goals as goal

pub returns-in_default : goal.returns-in_default
returns-in_default c =
    let item = row_in (strings_view c.args.strings) c.args.dirs (format_views c.args.formats.now) in (
      refl,
      rows_into (strings_view c.args.strings) (format_views c.args.formats.now) c.args.dirs c.args.count c.args.cursor.now
          ∙ sym c.loop-number.invariant
          ∙ none_read (λ row. row) item (map row_view c.loop-number.rows.items) c.args.count c.loop-number._number c.loop-number.cursor c.loop-number-test.true c.in_default.ensures,
    )

pub loop-number-preserved : goal.loop-number-preserved
loop-number-preserved c =
    let item = row_in (strings_view c.args.strings) c.args.dirs (format_views c.args.formats.now) in
    let rows = map row_view c.loop-number.rows.items in
    let step = one_read (λ row. row) item rows c.args.count c.loop-number._number c.loop-number.cursor c.loop-number-test.true (row_view c.in-Some.row) c.one_row.new.cursor c.in-Some.ensures in
    let more = ap (λ (w : List Row). map row_view w) c.in_ok-push.ensures.items ∙ map-append row_view c.loop-number.rows.items (c.in-Some.row ∷ []) in
    ap (λ (w : List PathRow). times_into (λ row. row) item w (c.args.count - (c.loop-number._number + 1)) c.one_row.new.cursor) more ∙ sym step ∙ c.loop-number.invariant

pub returns : goal.returns
returns c =
    let item = row_in (strings_view c.args.strings) c.args.dirs (format_views c.args.formats.now) in
    rows_into (strings_view c.args.strings) (format_views c.args.formats.now) c.args.dirs c.args.count c.args.cursor.now
    ∙ sym c.loop-number.invariant
    ∙ all_read (λ row. row) item (map row_view c.loop-number.rows.items) c.args.count c.loop-number._number c.loop-number.cursor c.loop-number-test.false

use Rattle.std.proofs.Common.{◌≡◌, ◌-◌, [], map}
use Rattle.dwz_lines.specs.Reading.{row_in}
use Rattle.dwz_lines.specs.RowViews.{row_view, strings_view}
use Rattle.dwz_lines.specs.Views.{format_views}
use Rattle.dwz_lines.proofs.LoopLemmas.{times_into}
use Rattle.dwz_lines.proofs.tables.rows_of_files.Given as goal

abbrev pub invariant-loop-number : goal.invariant-loop-number
invariant-loop-number l =
    times_into (λ row. row) (row_in (strings_view l.strings) l.dirs (format_views l.formats)) (map row_view l.rows.items) (l.count - l._number) l.cursor
    ≡ times_into (λ row. row) (row_in (strings_view l.strings) l.dirs (format_views l.formats)) [] l.count l.initial.cursor

use Rattle.std.proofs.Common.{◌≡◌, None, drop}
use Rattle.dwz_lines.specs.Reading.{seen, values_in}
use Rattle.dwz_lines.specs.RowViews.{seen_view, strings_view}
use Rattle.dwz_lines.specs.Views.{format_views}
use Rattle.dwz_lines.proofs.rows.one_row.Given as goal

abbrev pub invariant-loop-format : goal.invariant-loop-format
invariant-loop-format l =
    values_in (strings_view l.strings) l.dirs (format_views (drop l.format-index l.formats)) (seen_view l.seen) l.cursor ≡ values_in (strings_view l.strings) l.dirs (format_views l.formats)
    (seen None None) l.initial.cursor

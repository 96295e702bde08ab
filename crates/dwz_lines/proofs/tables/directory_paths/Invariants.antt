use Rattle.std.proofs.Common.{◌≡◌, ◌-◌, [], map}
use Rattle.dwz_lines.specs.Reading.{path_of, row_in}
use Rattle.dwz_lines.specs.RowViews.{strings_view}
use Rattle.dwz_lines.specs.Views.{format_views}
use Rattle.dwz_lines.proofs.LoopLemmas.{times_into}
use Rattle.dwz_lines.proofs.tables.directory_paths.Given as goal

abbrev pub invariant-loop-number : goal.invariant-loop-number
invariant-loop-number l =
    times_into path_of (row_in (strings_view l.strings) l.count (format_views l.formats)) (map (λ p. p.now) l.paths.items) (l.count - l._number) l.cursor
    ≡ times_into path_of (row_in (strings_view l.strings) l.count (format_views l.formats)) [] l.count l.initial.cursor

use Rattle.std.proofs.Common.{◌≡◌, ◌-◌, []}
use Rattle.dwz_lines.specs.Reading.{format_in}
use Rattle.dwz_lines.specs.Views.{format_views}
use Rattle.dwz_lines.proofs.LoopLemmas.{times_into}
use Rattle.dwz_lines.proofs.formats.formats.Given as goal

abbrev pub invariant-loop-number : goal.invariant-loop-number
invariant-loop-number l = times_into (λ x. x) format_in (format_views l.formats.items) (l.count - l._number) l.cursor ≡ times_into (λ x. x) format_in [] l.count l.initial.cursor

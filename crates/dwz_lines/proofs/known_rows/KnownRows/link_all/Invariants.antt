use Rattle.std.proofs.Common.{◌≡◌, ◌≤◌, length}
use Rattle.dwz_lines.specs.KnownViews.{IsSound}
use Rattle.dwz_lines.proofs.known_rows.KnownRows.link_all.Given as goal

abbrev pub invariant-loop-number : goal.invariant-loop-number
invariant-loop-number l = record {
  within : l.number ≤ length l.places;
  sound : IsSound l.self;
  line : l.self.line ≡ l.initial.self.line;
  reader : l.self.reader ≡ l.initial.self.reader;
}

abbrev pub decreases-loop-number : goal.decreases-loop-number
decreases-loop-number l = l.number

use Rattle.std.proofs.Common.{◌≡◌}
use Rattle.dwz_lines.specs.KnownViews.{IsSound}
use Rattle.dwz_lines.proofs.known_rows.KnownRows.learn.Given as goal

abbrev pub invariant-loop-left : goal.invariant-loop-left
invariant-loop-left l = record {
  sound : IsSound l.self;
  line : l.self.line ≡ l.initial.self.line;
  reader : l.self.reader ≡ l.initial.self.reader;
}

abbrev pub decreases-loop-left : goal.decreases-loop-left
decreases-loop-left l = l.left

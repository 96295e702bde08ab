use Rattle.std.proofs.Common.{◌≡◌, length, map}
use Rattle.dwz_graph.specs.Ahead.{AreAhead}
use Rattle.dwz_graph.proofs.ahead.places.Given as goal

abbrev pub invariant-loop-file : goal.invariant-loop-file
invariant-loop-file l = record {
  len : length l.ahead.items ≡ l._file-index;
  none : AreAhead (map (λ v. v.items) l.files) l.ahead.items;
}

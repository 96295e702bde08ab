use Rattle.std.proofs.Common.{◌≡◌, length, map, take}
use Rattle.dwz_graph.specs.Ahead.{AreAhead}
use Rattle.dwz_graph.specs.Files.{AreRead, limits_view}
use Rattle.dwz_graph.proofs.readings.given_files.Given as goal

abbrev pub invariant-loop-number : goal.invariant-loop-number
invariant-loop-number g l = record {
  read : AreRead (limits_view l.all) 0 (map (λ v. v.items) (take l.number l.files)) l.kept.items (limits_view l.left);
  len : length l.ahead.items ≡ length l.files;
  ahead : AreAhead (map (λ v. v.items) l.files) l.ahead.items;
}

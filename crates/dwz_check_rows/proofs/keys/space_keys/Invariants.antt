use Rattle.std.proofs.Common.{◌≡◌, ◌-◌, ◌≤◌, map}
use Rattle.dwz_check_rows.specs.Keys.{key}
use Rattle.dwz_check_rows.specs.UnitRows.{numbers_between}
use Rattle.dwz_check_rows.proofs.keys.space_keys.Given as goal

abbrev pub invariant-loop-node : goal.invariant-loop-node
invariant-loop-node l = record {
  is : l.keys.items ≡ map (key l.classes l.names) (numbers_between l.start l.node);
  low : l.node - l.start ≤ l.end - l.start;
}

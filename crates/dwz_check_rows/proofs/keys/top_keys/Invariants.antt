use Rattle.std.proofs.Common.{◌≡◌, ◌-◌, ◌≤◌, map, false}
use Rattle.std.specs.Prelude.{slice_index_or}
use Rattle.std.specs.List.{filter}
use Rattle.dwz_check_rows.specs.Keys.{key}
use Rattle.dwz_check_rows.specs.UnitRows.{numbers_between}
use Rattle.dwz_check_rows.proofs.keys.top_keys.Given as goal

abbrev pub invariant-loop-node : goal.invariant-loop-node
invariant-loop-node l = record {
  is : l.keys.items ≡ map (key l.classes l.columns.names) (filter (λ n. slice_index_or l.columns.plain n false) (numbers_between l.unit.top l.node));
  low : l.node - l.unit.top ≤ l.unit.tops_end - l.unit.top;
}

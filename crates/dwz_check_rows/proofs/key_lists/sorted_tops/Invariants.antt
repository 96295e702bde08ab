use Rattle.dwz_check_rows.specs.Rows.{node_keys}
use Rattle.dwz_check_rows.specs.UnitRows.{plain_tops, unit_at}
use Rattle.dwz_check_rows.proofs.ListLemmas.{Listed}
use Rattle.dwz_check_rows.proofs.key_lists.sorted_tops.Given as goal

abbrev pub invariant-loop-unit : goal.invariant-loop-unit
invariant-loop-unit l = Listed (λ x. node_keys l.classes l.columns (plain_tops l.columns (unit_at l.columns x))) l.unit-index l.ends.items l.keys.items

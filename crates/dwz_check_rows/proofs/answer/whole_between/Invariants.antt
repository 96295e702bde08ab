use Rattle.std.proofs.Common.{◌≡◌, ◌-◌, ◌≤◌}
use Rattle.std.specs.List.{filter}
use Rattle.dwz_check_rows.specs.Rows.{is_whole}
use Rattle.dwz_check_rows.specs.UnitRows.{numbers_between, unit_at}
use Rattle.dwz_check_rows.proofs.answer.whole_between.Given as goal

abbrev pub invariant-loop-unit : goal.invariant-loop-unit
invariant-loop-unit l = record {
  is : l.numbers.items ≡ filter (λ n. is_whole (unit_at l.columns n).kind) (numbers_between l.start l.unit);
  low : l.unit - l.start ≤ l.end - l.start;
}

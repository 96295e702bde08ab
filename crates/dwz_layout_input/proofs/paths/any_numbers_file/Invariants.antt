use Rattle.std.proofs.Common.{◌≡◌}
use Rattle.std.specs.Prelude.{slice_range}
use Rattle.std.specs.List.{list_any}
use Rattle.dwz_unit.specs.Rows.{rows_of, units_of}
use Rattle.dwz_layout_input.specs.Roots.{numbers_file}
use Rattle.dwz_layout_input.proofs.paths.any_numbers_file.Given as goal

abbrev pub invariant-loop-i : goal.invariant-loop-i
invariant-loop-i l = list_any numbers_file (slice_range (rows_of (units_of l.units)) l.i l.end) ≡ list_any numbers_file (slice_range (rows_of (units_of l.units)) l.first l.end)

use Rattle.std.proofs.Common.{◌≡◌, take}
use Rattle.std.specs.List.{flat_map}
use Rattle.dwz_unit.specs.Rows.{rows_of, units_of}
use Rattle.dwz_encode_common.specs.Numbers.{row_numbers}
use Rattle.dwz_encode_common.proofs.numbers.numbers_of_file.Given as goal

abbrev pub invariant-loop-i : goal.invariant-loop-i
invariant-loop-i l = l.numbers.items ≡ flat_map (row_numbers l.paths l.file) (take l.i (rows_of (units_of l.file.units)))

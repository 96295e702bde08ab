use Rattle.std.proofs.Common.{◌≡◌, ◌++◌, drop, take, Some, slice_get}
use Rattle.std.specs.List.{flat_map}
use Rattle.dwz_unit.specs.Rows.{EntryRow, rows_of, units_of}
use Rattle.dwz_unit.specs.Values.{Reads}
use Rattle.dwz_encode_common.specs.Numbers.{number_read}
use Rattle.dwz_encode_common.proofs.numbers.put_row.Given as goal

abbrev pub invariant-loop-pair : goal.invariant-loop-pair
invariant-loop-pair l = record {
  reads : (row : EntryRow) → slice_get (rows_of (units_of l.fn.file.units)) l.fn.entry ≡ Some row
      → Reads row.entry.at (drop l.pair-index l.pairs) l.cursor (drop l.pair-index row.entry.attrs);
  numbers : (row : EntryRow) → slice_get (rows_of (units_of l.fn.file.units)) l.fn.entry ≡ Some row
      → l.numbers.items ≡ l.fn.numbers.items ++ flat_map (number_read l.paths l.tables l.line) (take l.pair-index row.entry.attrs);
}

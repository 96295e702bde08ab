use Rattle.std.proofs.Common.{◌≡◌, ◌++◌, drop, take, Some, slice_get}
use Rattle.dwz_unit.specs.Rows.{EntryRow, rows_of, units_of}
use Rattle.dwz_unit.specs.Values.{Reads}
use Rattle.dwz_encode_texts.specs.Texts.{own_texts}
use Rattle.dwz_encode_texts.proofs.texts.put_texts.Given as goal

abbrev pub invariant-loop-k : goal.invariant-loop-k
invariant-loop-k l = record {
  reads : (row : EntryRow) → slice_get (rows_of (units_of l.units)) l.entry ≡ Some row → Reads row.entry.at (drop l.k l.pairs) l.cursor (drop l.k row.entry.attrs);
  texts : (row : EntryRow) → slice_get (rows_of (units_of l.units)) l.entry ≡ Some row → l.texts.items ≡ l.fn.texts.items ++ own_texts l.offsets l.base (take l.k row.entry.attrs);
}

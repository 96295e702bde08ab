use Rattle.std.proofs.Common.{◌≡◌, ◌++◌, drop, take, Some, slice_get}
use Rattle.dwz_def_expand.specs.OneFile.{OneFile}
use Rattle.dwz_def_reading.specs.Meanings.{without_siblings}
use Rattle.dwz_def_reading.specs.Units.{RawUnit}
use Rattle.dwz_unit.specs.Rows.{EntryRow, rows_of}
use Rattle.dwz_unit.specs.Values.{Reads}
use Rattle.dwz_expand.specs.Gathered.{CanBeRead, Tells, own_scope, told_in}
use Rattle.dwz_expand_passes.specs.Files.{raw_in}
use Rattle.dwz_expand.proofs.entry.put_values.Given as goal

abbrev pub invariant-loop-pair : goal.invariant-loop-pair
invariant-loop-pair l = record {
  reads : (row : EntryRow) → slice_get (rows_of (raw_in l.x.file.now.own)) l.i ≡ Some row
      → Reads row.entry.at (drop l.pair-index l.pairs) l.cursor (drop l.pair-index row.entry.attrs);
  told : (f : OneFile) (u : RawUnit) (row : EntryRow) (t : Tells f l.x u) → slice_get (rows_of (raw_in l.x.file.now.own)) l.i ≡ Some row
      → CanBeRead l.x.file.now t.known.w l.x.unit u (without_siblings row.entry.attrs)
      → l.told.items ≡ l.fn.told.items ++ told_in f l.x.unit (own_scope l.x.file.now u) (without_siblings (take l.pair-index row.entry.attrs));
}

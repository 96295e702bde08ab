use Rattle.std.proofs.Common.{◌≡◌, ℕ, [], drop, take, Some, slice_get}
use Rattle.dwz_def_reading.specs.Documents.{Node}
use Rattle.dwz_model.specs.Lists.{Each}
use Rattle.dwz_expand_layout.specs.Entries.{CanStore}
use Rattle.dwz_unit.specs.Rows.{EntryRow, rows_of}
use Rattle.dwz_unit.specs.Values.{Reads}
use Rattle.dwz_expand_passes.specs.Attributes.{IsEntryOf, Remain, SpeaksAttrs}
use Rattle.dwz_expand_passes.specs.Known.{Fits, LeadWithin, Setting, raw_of}
use Rattle.dwz_expand_passes.proofs.attributes.put_values.Given as goal

abbrev pub invariant-loop-pair : goal.invariant-loop-pair
invariant-loop-pair l = record {
  reads : (row : EntryRow) → slice_get (rows_of (raw_of l.x)) l.i ≡ Some row → Reads row.entry.at (drop l.pair-index l.pairs) l.cursor (drop l.pair-index row.entry.attrs);
  stores : Each CanStore l.attrs.items;
  within : LeadWithin l.x l.rest;
  remain : (q : Setting) (row : EntryRow) (d : Node ℕ) → Fits l.x q → IsEntryOf l.x q l.i row d
      → Remain l.x q (drop l.pair-index row.entry.attrs) l.rest d.attrs l.attrs.items l.operands.items;
  spoken : (q : Setting) (row : EntryRow) (d : Node ℕ) → Fits l.x q → IsEntryOf l.x q l.i row d → SpeaksAttrs q (take l.pair-index row.entry.attrs) [] l.operands.items;
}

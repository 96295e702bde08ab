use Rattle.std.proofs.Common.{◌≡◌, ℕ, drop, take, Some, slice_get}
use Rattle.std.specs.Option.{option_map}
use Rattle.dwz_unit.specs.Rows.{EntryRow, rows_of, units_of}
use Rattle.dwz_unit.specs.Values.{Reads}
use Rattle.dwz_imports.specs.Said.{raw_beside}
use Rattle.dwz_imports.proofs.NamedParts.{Added}
use Rattle.dwz_imports.proofs.entries.put_named.Given as goal

abbrev pub invariant-loop-pair : goal.invariant-loop-pair
invariant-loop-pair l = record {
  reads : (row : EntryRow) → slice_get (rows_of (units_of l.own)) l.i ≡ Some row → Reads row.entry.at (drop l.pair-index l.pairs) l.cursor (drop l.pair-index row.entry.attrs);
  names : (row : EntryRow) → slice_get (rows_of (units_of l.own)) l.i ≡ Some row
      → (n : ℕ) → Added (units_of l.own) (raw_beside (option_map (λ u. u.now) l.common)) n l.at l.fn.parts.items l.parts.items (take l.pair-index row.entry.attrs);
}

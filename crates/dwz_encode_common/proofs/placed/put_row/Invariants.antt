use Rattle.std.proofs.Common.{◌≡◌, ◌++◌, drop, length, take, Some, slice_get}
use Rattle.std.specs.List.{flat_map}
use Rattle.dwz_graph.specs.Resolved.{sources_view}
use Rattle.dwz_unit.specs.Rows.{EntryRow, rows_of, units_of}
use Rattle.dwz_unit.specs.Values.{Reads}
use Rattle.dwz_encode_common.specs.Placed.{entry_places}
use Rattle.dwz_encode_common.specs.Stored.{text_read}
use Rattle.dwz_encode_common.specs.TextsIn.{texts_in}
use Rattle.dwz_encode_common.proofs.placed.put_row.Given as goal

abbrev pub invariant-loop-pair : goal.invariant-loop-pair
invariant-loop-pair l = record {
  reads : (row : EntryRow) → slice_get (rows_of (units_of l.place.units.now)) l.place.entry ≡ Some row
      → Reads row.entry.at (drop l.pair-index l.pairs) l.cursor (drop l.pair-index row.entry.attrs);
  places : (row : EntryRow) → slice_get (rows_of (units_of l.place.units.now)) l.place.entry ≡ Some row
      → l.places.items ≡ l.fn.places.items ++ entry_places l.is_common l.to.shares (texts_in l.to.texts.now) l.to.known.now l.to.file (length l.fn.places.items)
      (flat_map (text_read (sources_view l.place.sections.now) l.base) (take l.pair-index row.entry.attrs));
}

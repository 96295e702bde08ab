-- Inner: the row of an entry beside the entry of a document that it means.
use Rattle.std.specs.Prelude.{◌≡◌, ℕ, ◌+◌, ◌<◌, ◌≤◌, List, length, Some, slice_get}
use Rattle.dwz_def_reading.specs.Documents.{Entries}
use Rattle.dwz_def_reading.specs.Files.{around_of}
use Rattle.dwz_def_reading.specs.Meanings.{Around, MeanAttrs, scope_of, without_siblings}
use Rattle.dwz_def_reading.specs.Units.{RawUnit, entries_in}
use Rattle.dwz_unit.specs.Rows.{EntryRow, rows_of, units_of}
use Rattle.dwz_graph.specs.declared.file.File.{File}
use Rattle.dwz_graph.specs.Files.{AreKept, docs_of}
use Rattle.dwz_model.specs.declared.place.Place.{Place}
use Rattle.dwz_graph_view.specs.EntryViews.{EntrySpot, entry_at, first_offset, units_before}

-- its children begin at the next row, where that is before its end
pub record HasChildren (rows : List EntryRow) (i : ℕ) (row : EntryRow) (below : Entries ℕ) : Type 0 where
  pub some : i + 1 < row.end → (r : EntryRow) → slice_get rows (i + 1) ≡ Some r → first_offset below ≡ r.entry.at
  pub none : row.end ≤ i + 1 → first_offset below ≡ 0

-- its next sibling is at its end, where a row of its unit and of its depth is
pub record HasSiblings (rows : List EntryRow) (row : EntryRow) (behind : Entries ℕ) : Type 0 where
  pub some : (r : EntryRow) → slice_get rows row.end ≡ Some r → r.unit ≡ row.unit → r.depth ≡ row.depth → first_offset behind ≡ r.entry.at
  pub none : (r : EntryRow) → slice_get rows row.end ≡ Some r → (r.unit ≡ row.unit → r.depth ≡ row.depth → ⊥) → first_offset behind ≡ 0
  pub last : length rows ≤ row.end → first_offset behind ≡ 0

-- the row with number i means the entry, where that surrounds the units of the file, and the first of them has that number
pub record IsRowOf (raw : List RawUnit) (around : Around ℕ) (first i : ℕ) (e : EntrySpot) : Type 0 where
  pub row : EntryRow
  pub found : slice_get (rows_of raw) i ≡ Some row
  pub unit_is : e.unit ≡ first + row.unit
  pub at : e.node.at ≡ row.entry.at
  pub tag_is : e.node.tag ≡ row.entry.tag
  pub u : RawUnit
  pub is_unit : slice_get raw row.unit ≡ Some u
  pub attrs_mean : MeanAttrs (scope_of around u) (without_siblings row.entry.attrs) e.node.attrs
  pub children : HasChildren (rows_of raw) i row e.below
  pub siblings : HasSiblings (rows_of raw) row e.behind

-- the row with number i of its file means the entry that begins at the place
pub record IsNumberAt (contents : List (List ℕ)) (p : Place) (i : ℕ) : Type 0 where
  pub within : p.file < length contents
  pub bytes : List ℕ
  pub content : slice_get contents p.file ≡ Some bytes
  pub spot : EntrySpot
  pub there : entry_at (docs_of contents) p ≡ Some spot
  pub means : (files : List File) (f : File) → AreKept contents files → slice_get files p.file ≡ Some f
      → (i < entries_in (units_of f.units)) × IsRowOf (units_of f.units) (around_of bytes (units_of f.units)) (units_before (docs_of contents) p.file) i spot

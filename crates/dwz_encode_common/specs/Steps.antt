-- Where an entry of the lists of a layout is read. This is of the inside alone.
use Rattle.std.specs.Prelude.{◌≡◌, ℕ, ◌<◌, List, [], map, Option, Some, None, slice_get}
use Rattle.dwz_def_reading.specs.Units.{RawUnit, entries_in}
use Rattle.dwz_def_reading.specs.Files.{sources_of}
use Rattle.dwz_def_reading.specs.Meanings.{Sources}
use Rattle.dwz_graph.specs.Resolved.{sources_view}
use Rattle.dwz_unit.specs.Rows.{EntryRow, rows_of, units_of}
use Rattle.dwz_layout.specs.declared.known.EntryTable.{EntryTable}
use Rattle.dwz_layout.specs.declared.known.Row.{Row}
use Rattle.dwz_layout.specs.Known.{row_at}
use Rattle.dwz_encode_common.specs.declared.places.Place.{Place}
use Rattle.dwz_encode_common.specs.Stored.{by_row, slots_base, units_in}

-- what an entry of the file gives in what it reads
abbrev pub Giving : Type 0
Giving = Sources → List RawUnit → EntryRow → List (List ℕ)

-- the sections, the units and the bases of slots are those of the entry's file
pub record IsPlace (contents : List (List ℕ)) (k : EntryTable) (r : Row) (p : Place) : Type 0 where
  pub bytes : List ℕ
  pub bytes_are : slice_get contents r.file ≡ Some bytes
  pub sources : sources_view p.sections.now ≡ sources_of bytes
  pub units : units_in k r.file ≡ units_of p.units.now
  pub within : p.entry < entries_in (units_of p.units.now)
  pub row : EntryRow
  pub found : slice_get (rows_of (units_of p.units.now)) p.entry ≡ Some row
  pub there : row_at k r ≡ Some row
  pub bases : p.bases.now ≡ map slots_base (units_of p.units.now)

-- or there is no such entry
abbrev pub HasPlace : List (List ℕ) → EntryTable → Row → Option Place → Type 0
HasPlace contents k r None = (give : Giving) → by_row contents k r give ≡ []
HasPlace contents k r (Some p) = IsPlace contents k r p

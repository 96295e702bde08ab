-- Entries as they are kept: what their rows say, where a number leads to the names and forms of a declaration.
use Rattle.std.specs.Prelude.{ℕ, List, map, Option, Some, slice_get}
use Rattle.dwz_def_reading.specs.Entries.{RawAttr, RawEntry}
use Rattle.dwz_def_reading.specs.Units.{RawUnit}
use Rattle.dwz_model.specs.declared.place.Pair.{Pair}
use Rattle.dwz_unit.specs.Rows.{EntryRow, rows_of}
use Rattle.dwz_unit.specs.declared.rows.Row.{Row}

-- an entry by its row, with the names and forms of its values, if its declaration is there
pub record KnownRow : Type 0 where
  pub at : ℕ
  pub tag : ℕ
  pub unit : ℕ
  pub depth : ℕ
  pub end : ℕ
  pub pairs : Option (List Pair)

abbrev pub row_view : List (List Pair) → Row → KnownRow
row_view decls row = record { at = row.at; tag = row.tag; unit = row.unit; depth = row.depth; end = row.end; pairs = slice_get decls row.decl }

-- the names and forms of an entry's values
abbrev pub pairs_of : RawEntry → List Pair
pairs_of e = map (λ (a : RawAttr). a.pair) e.attrs

-- what the row of an entry has to say
abbrev pub known_row : EntryRow → KnownRow
known_row row = record {
  at = row.entry.at;
  tag = row.entry.tag;
  unit = row.unit;
  depth = row.depth;
  end = row.end;
  pairs = Some (pairs_of row.entry);
}

-- the same of all entries in order
abbrev pub known_entries : List RawUnit → List KnownRow
known_entries units = map known_row (rows_of units)

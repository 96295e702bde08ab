-- What is found of an entry by its file and its number there.
use Rattle.std.proofs.Common.{◌≡◌, ℕ, ◌<◌, ◌≤◌, true, List, [], get_or, length, Option, Some, None, slice_get, refl, sym, ap, ◌∙◌, arith}
use Rattle.std.specs.Prelude.{nat_lt}
use Rattle.std.specs.Option.{option_map, option_map_or}
use Rattle.std.proofs.lemmas.Bool.{ltb-true}
use Rattle.std.proofs.lemmas.Option.{slice_get-map, slice_get_past, slice_get_read}
use Rattle.dwz_def_reading.specs.Input.{Input}
use Rattle.dwz_def_reading.specs.Units.{entries_in}
use Rattle.dwz_model.specs.declared.place.Pair.{Pair}
use Rattle.dwz_unit.proofs.RowsFound.{row_there, rows-length}
use Rattle.dwz_unit.specs.declared.rows.RawEntry.{RawEntry as EntryOfCode}
use Rattle.dwz_unit.specs.Rows.{EntryRow, entry_shown, rows_of, shown_entries, units_of}
use Rattle.dwz_unit.specs.Values.{Reads}
use Rattle.dwz_layout.specs.declared.known.FileRows.{FileRows}
use Rattle.dwz_layout.specs.declared.known.EntryTable.{EntryTable}
use Rattle.dwz_layout.specs.declared.known.Row.{Row}
use Rattle.dwz_layout.specs.Known.{HasValues, row_at}

pub file_found : {X : Type 0} (xs ys : List X) (i : ℕ) (f : X) → xs ≡ ys → true ≡ nat_lt i (length xs) → f ≡ get_or xs i f → slice_get ys i ≡ Some f
file_found {X} xs ys i f same lt is = ap (λ (w : List X). slice_get w i) (sym same) ∙ slice_get_read xs (length xs) i f refl (ltb-true i (length xs) (sym lt)) is

module _ (k : EntryTable) (r : Row) (f : FileRows) (found : slice_get k.files.items r.file ≡ Some f) where
  rows_are : row_at k r ≡ slice_get (rows_of (units_of f.units.now)) r.entry
  rows_are = ap (λ (o : Option FileRows). slice_get (option_map_or (λ (g : FileRows). rows_of (units_of g.units.now)) o []) r.entry) found

  pub entry_none : entries_in (units_of f.units.now) ≤ r.entry → row_at k r ≡ None
  entry_none le = rows_are ∙ slice_get_past (rows_of (units_of f.units.now)) r.entry (omega (arith, le, rows-length (units_of f.units.now)))

  pub entry_some : (e : EntryOfCode) → slice_get (shown_entries (units_of f.units.now)) r.entry ≡ Some e → Some e ≡ option_map entry_shown (row_at k r)
  entry_some e is = sym is ∙ slice_get-map entry_shown (rows_of (units_of f.units.now)) r.entry ∙ ap (option_map entry_shown) (sym rows_are)

  pub has_values : (pairs : List Pair) (at : Input) → r.entry < entries_in (units_of f.units.now)
      → ((row : EntryRow) → slice_get (rows_of (units_of f.units.now)) r.entry ≡ Some row → Reads row.entry.at pairs at row.entry.attrs) → HasValues k r pairs at
  has_values pairs at lt reads =
      let there = row_there (units_of f.units.now) r.entry lt in
      record { entry = there.0; is = rows_are ∙ there.1; reads = reads there.0 there.1 }

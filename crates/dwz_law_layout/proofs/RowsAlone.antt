-- An entry's name is in the list of all names at its number alone, and what wasn't read has another kind of name.
use Rattle.std.proofs.Common.{◌≡◌, ℕ, ◌<◌, ◌≤◌, ◌⊎◌, List, length, get_or, Some, slice_get, sym, ap, subst, ◌∙◌, arith, inl, inr}
use Rattle.std.proofs.lemmas.Bool.{cases_lt}
use Rattle.std.proofs.lemmas.List.{get_or_past}
use Rattle.std.proofs.lemmas.Option.{slice_get-get_or}
use Rattle.dwz_def_reading.specs.Lists.{Each, In}
use Rattle.dwz_def_reading.proofs.ListFacts.{got_in}
use Rattle.dwz_def_reading.specs.Documents.{Doc}
use Rattle.dwz_def_tops.specs.Spots.{EntryName, PartialOf, UnitOf}
use Rattle.dwz_def_images.specs.Homes.{Rule}
use Rattle.dwz_def_images.specs.After.{ArePlaced}
use Rattle.dwz_def_encoding.specs.Placing.{FileOut}
use Rattle.dwz_def_readback.specs.Back.{run_of}
use Rattle.dwz_def_readback.specs.Files.{Stored, files_out}
use Rattle.dwz_layout.specs.declared.known.EntryTable.{EntryTable}
use Rattle.dwz_layout.specs.declared.order.UnitItems.{UnitItems}
use Rattle.dwz_encode.specs.Shown.{Keys}
use Rattle.dwz_graph.specs.AllNames.{all_names}
use Rattle.dwz_layout_numbers.proofs.OnceNames.{one_entry}
use Rattle.dwz_law_layout.specs.Refers.{IsEntryNumber, RowsApart}
use Rattle.dwz_law_layout.specs.Apart.{KeysOfNames, IsEntryName, IsUnitName}
use Rattle.dwz_law_layout.proofs.NamesOfEntries.{entry_named}
use Rattle.dwz_law_layout.proofs.NamesOfUnits.{all_named}

unit_or_entry : (s : EntryName) → IsUnitName s → IsEntryName s → ⊥
unit_or_entry (UnitOf i) unit entry = entry
unit_or_entry (PartialOf i) unit entry = entry
unit_or_entry _ unit entry = unit

module _ (docs : List (Doc ℕ)) where
  abbrev name_at : ℕ → EntryName
  name_at n = get_or (all_names docs) n (UnitOf 0)

  found : (n : ℕ) → n < length (all_names docs) → slice_get (all_names docs) n ≡ Some (name_at n)
  found n lt = slice_get-get_or (all_names docs) n (UnitOf 0) lt

  is_entry : (n : ℕ) → n < length (all_names docs) → IsEntryName (name_at n)
  is_entry n lt = entry_named docs (name_at n) (got_in (all_names docs) n (name_at n) (found n lt))

  one_row : (m n : ℕ) → m < length (all_names docs) → name_at m ≡ name_at n → m ≡ n
  one_row m n lt e = by (cases_lt n (length (all_names docs))) where
    by : (n < length (all_names docs)) ⊎ (length (all_names docs) ≤ n) → m ≡ n
    by (inr past) = absurd (subst IsEntryName (e ∙ get_or_past (all_names docs) n (UnitOf 0) past) (is_entry m lt))
    by (inl less) = one_entry docs (name_at n) m n (found m lt ∙ ap (λ (s : EntryName). Some s) e) (found n less)

module _ (docs : List (Doc ℕ)) (rule : Rule) (placed : Each (λ doc. ArePlaced doc.units) docs)
    (input : Stored) (keys : Keys EntryName) (k : EntryTable) (order : List (List UnitItems)) (files : List (FileOut EntryName)) (are : KeysOfNames docs keys) (many : length k.owners.items ≡ length
    (all_names docs))
    (into : (f : FileOut EntryName) → In f files → In f (files_out (run_of rule docs input))) where
  less : (m : ℕ) → IsEntryNumber k m → m < length (all_names docs)
  less m lt = omega (arith, lt, many)

  row_entry : (m : ℕ) → IsEntryNumber k m → IsEntryName (keys.row m)
  row_entry m lt = subst IsEntryName (sym (are.row m)) (is_entry docs m (less m lt))

  pub rows_apart : RowsApart keys k order files
  rows_apart = record {
    rows = λ m n lt written e. one_row docs m n (less m lt) (sym (are.row m) ∙ e ∙ are.row n);
    units = λ m f u lt f_in u_in e. unit_or_entry u.at (all_named docs rule placed input f (into f f_in) u u_in).at (subst IsEntryName e (row_entry m lt));
    roots = λ m f u lt f_in u_in partial e.
        (let root = (all_named docs rule placed input f (into f f_in) u u_in).root partial in
        subst IsEntryName (e ∙ root.1) (row_entry m lt));
    chained = λ m unit chain depth lt e. subst IsEntryName (e ∙ (are.chained unit chain depth).1) (row_entry m lt);
    imports = λ m unit part lt e. subst IsEntryName (e ∙ (are.import unit part).1) (row_entry m lt);
  }

-- The path of a file by its number in a line table, and entries of files that aren't there.
use Rattle.std.proofs.Common.{◌≡◌, ℕ, ◌<◌, ◌≤◌, ◌^◌, true, List, [], length, Option, None, Some, pos, negsuc, slice_get, sym, ap, ◌∙◌, arith}
use Rattle.std.specs.Prelude.{ℤ}
use Rattle.std.specs.Option.{option_map_or}
use lib.Signed.{lt_z}
use Rattle.std.proofs.lemmas.Bool.{false≢true, ltb-true}
use Rattle.std.proofs.lemmas.Option.{slice_get_past}
use Rattle.dwz_def_reading.specs.LineTables.{FileTable, nth_path}
use Rattle.dwz_def_reading.specs.Meanings.{path_by}
use Rattle.dwz_unit.specs.Rows.{EntryRow, rows_of, units_of}
use Rattle.dwz_graph.specs.declared.file.File.{File}
use Rattle.dwz_layout.specs.declared.known.Row.{Row}
use Rattle.dwz_unit.proofs.RowsFound.{rows-length}
use Rattle.dwz_graph.proofs.FileSteps.{none_behind}
use Rattle.dwz_def_reading.specs.Units.{entries_in}
use Rattle.dwz_encode_common.specs.Paths.{paths_at, row_paths}

-- no table has as many files
pub past_all : (t : FileTable) (z : ℤ) → lt_z (pos 18446744073709551615) z ≡ true → length t.paths < 2 ^ 63
    → nth_path t.paths 18446744073709551615 ≡ path_by t z
past_all t (pos n) above few =
    let lt = ltb-true 18446744073709551615 n above in
    none_behind t.paths 18446744073709551615 (omega arith) ∙ sym (none_behind t.paths n (omega arith))
past_all t (negsuc n) above few = absurd (false≢true above)

-- ---- entries

abbrev by_row : Option File → ℕ → List (List ℕ)
by_row o entry = option_map_or (λ (x : File). option_map_or (row_paths x) (slice_get (rows_of (units_of x.units)) entry) []) o []

pub no_file : (files : List File) (r : Row) → slice_get files r.file ≡ None → paths_at files r ≡ []
no_file files r none = ap (λ (o : Option File). by_row o r.entry) none

pub no_row : (files : List File) (r : Row) (x : File) → slice_get files r.file ≡ Some x → entries_in (units_of x.units) ≤ r.entry
    → paths_at files r ≡ []
no_row files r x found le =
    let many = rows-length (units_of x.units) in
    ap (λ (o : Option File). by_row o r.entry) found
    ∙ ap (λ (o : Option EntryRow). option_map_or (row_paths x) o []) (slice_get_past (rows_of (units_of x.units)) r.entry (omega arith))

pub row_there : (files : List File) (r : Row) (x : File) (e : EntryRow) → slice_get files r.file ≡ Some x
    → slice_get (rows_of (units_of x.units)) r.entry ≡ Some e
    → paths_at files r ≡ row_paths x e
row_there files r x e found there =
    ap (λ (o : Option File). by_row o r.entry) found ∙ ap (λ (o : Option EntryRow). option_map_or (row_paths x) o []) there

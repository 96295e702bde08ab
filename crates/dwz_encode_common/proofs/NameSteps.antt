-- The name of an entry of these files, where it is there.
use Rattle.std.proofs.Common.{◌≡◌, ℕ, ◌≤◌, List, [], Option, None, Some, slice_get, ap, ◌∙◌, arith}
use Rattle.std.specs.Option.{option_map_or}
use Rattle.std.proofs.lemmas.Option.{slice_get_past}
use Rattle.dwz_def_reading.specs.Units.{entries_in}
use Rattle.dwz_unit.specs.Rows.{EntryRow, rows_of, units_of}
use Rattle.dwz_graph.specs.Resolved.{sources_view}
use Rattle.dwz_unit.proofs.RowsFound.{rows-length}
use Rattle.dwz_graph.specs.declared.file.File.{File}
use Rattle.dwz_layout.specs.declared.known.Row.{Row}
use Rattle.dwz_encode_common.specs.Placed.{name_at}
use Rattle.dwz_encode_common.specs.Stored.{row_name}

abbrev name_in : File → Option EntryRow → List (List ℕ)
name_in x o = option_map_or (row_name (sources_view x.sections) (units_of x.units)) o []

abbrev by_file : Option File → ℕ → List (List ℕ)
by_file o entry = option_map_or (λ (x : File). name_in x (slice_get (rows_of (units_of x.units)) entry)) o []

pub no_file : (files : List File) (r : Row) → slice_get files r.file ≡ None → name_at files r ≡ []
no_file files r none = ap (λ (o : Option File). by_file o r.entry) none

pub no_row : (files : List File) (r : Row) (x : File) → slice_get files r.file ≡ Some x → entries_in (units_of x.units) ≤ r.entry
    → name_at files r ≡ []
no_row files r x found le =
    let many = rows-length (units_of x.units) in
    ap (λ (o : Option File). by_file o r.entry) found
    ∙ ap (name_in x) (slice_get_past (rows_of (units_of x.units)) r.entry (omega arith))

pub name_there : (files : List File) (r : Row) (x : File) (e : EntryRow) → slice_get files r.file ≡ Some x
    → slice_get (rows_of (units_of x.units)) r.entry ≡ Some e → name_at files r ≡ row_name (sources_view x.sections) (units_of x.units) e
name_there files r x e found there = ap (λ (o : Option File). by_file o r.entry) found ∙ ap (name_in x) there

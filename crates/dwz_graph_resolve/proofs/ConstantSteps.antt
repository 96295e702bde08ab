-- What a number says, where it may be one of a file.
use Rattle.std.proofs.Common.{◌≡◌, ℕ, Bool, true, false, List, [], Option, Some, None, Result, Ok, Err, refl, sym, ap, subst, ◌∙◌}
use Rattle.std.specs.Prelude.{if◌then◌else◌}
use Rattle.std.specs.Option.{is_some}
use Rattle.dwz_model.specs.declared.fault.Fault.{Fault}
use Rattle.dwz_model.specs.declared.fault.ReadErr.{ReadErr}
use Rattle.dwz_model.specs.declared.fault.ReadErr.TheVariants.{NoMemory, Refused}
use Rattle.dwz_def_reading.specs.Reading.{◌>>=◌}
use Rattle.dwz_def_reading.specs.Entries.{RawAttr}
use Rattle.dwz_def_reading.specs.Faults.{info_fault}
use Rattle.dwz_model.specs.declared.fault.Reason.TheVariants.{BadFile}
use Rattle.dwz_def_reading.specs.Units.{RawUnit}
use Rattle.dwz_def_reading.specs.Documents.{File, only}
use Rattle.dwz_def_reading.specs.LineTables.{FileTable}
use Rattle.dwz_def_reading.specs.Meanings.{Common, MeaningContext, constant_value, number_of, path_by, stmt_list}
use Rattle.dwz_def_reading.specs.Classes.{names_file}
use Rattle.dwz_def_reading.specs.Meant.{file_by, is_zero, path_or, row_of_table}
use Rattle.dwz_def_reading.specs.Shared.{NamedList}
use Rattle.dwz_graph_resolve.specs.declared.files.Files.{Files}
use Rattle.dwz_graph_resolve.specs.declared.state.State.{State}
use Rattle.dwz_graph_resolve.specs.FileRows.{SaysConstant, file_there, number_there, row_there, table_at, unless_none}
use Rattle.dwz_graph_resolve.specs.Named.{Found, found_in, map_ok, nothing_found}
use Rattle.dwz_graph_resolve.specs.Resolved.{Goes}
use Rattle.dwz_graph_resolve.specs.State.{IsState}
use Rattle.dwz_graph_resolve.proofs.NamedSteps.{added_none}
use Rattle.dwz_graph_resolve.proofs.StateLemmas.{with_files}

abbrev none_found : Unit {0} → Found
none_found u = nothing_found

path_found : (a : RawAttr) (o : Option (List ℕ)) → map_ok (found_in []) (path_or {P = ℕ} a o) ≡ map_ok none_found (unless_none a.at (is_some o))
path_found a None = refl
path_found a (Some path) = refl

table_found : (a : RawAttr) (r : Result FileTable Fault) → map_ok (found_in []) (r >>= row_of_table {P = ℕ} a) ≡ map_ok none_found (r >>= row_there a.at (number_of a.raw))
table_found a (Ok t) = path_found a (path_by t (number_of a.raw))
table_found a (Err f) = refl

zero_found : (s : MeaningContext ℕ) (a : RawAttr) → map_ok (found_in []) (file_by None s a) ≡ map_ok none_found (unless_none a.at (is_zero (number_of a.raw)))
zero_found s a = by (is_zero (number_of a.raw)) where
  by : (b : Bool) → map_ok (found_in []) (if b then Ok (only (File None)) else Err (info_fault a.at BadFile)) ≡ map_ok none_found (unless_none a.at b)
  by true = refl
  by false = refl

file_found : (s : MeaningContext ℕ) (a : RawAttr) (o : Option ℕ) → map_ok (found_in []) (file_by o s a) ≡ map_ok none_found (file_there s.around.sources o a.at (number_of a.raw))
file_found s a None = zero_found s a
file_found s a (Some place) = table_found a (table_at s.around.sources place)

constant_found : (s : MeaningContext ℕ) (a : RawAttr) (o : Option ℕ) → map_ok (found_in []) (if names_file a.pair.name then file_by o s a else Ok (constant_value a))
    ≡ map_ok none_found (number_there s.around.sources o a.pair.name a.at (number_of a.raw))
constant_found s a o = by (names_file a.pair.name) where
  by : (b : Bool) → map_ok (found_in []) (if b then file_by o s a else Ok (constant_value a)) ≡ map_ok none_found (if b then file_there s.around.sources o a.at (number_of a.raw) else Ok tt)
  by true = file_found s a o
  by false = refl

pub constant_goes : {Y : Type 0} (common : Option (Common ℕ)) (raw : List RawUnit) (s : MeaningContext ℕ) (n : ℕ) (before : List NamedList) (st : State) (files : Files) (a : RawAttr) (line : Option ℕ) (result : Result Y ReadErr)
    → line ≡ stmt_list s → IsState raw s n before st
    → SaysConstant s.around.sources line a.pair.name a.at (number_of a.raw) files result
    → Goes common raw (IsState raw s n) before st (record st { files = files }) result (map_ok (found_in []) (if names_file a.pair.name then file_by (stmt_list s) s a else Ok (constant_value a)))
constant_goes common raw s n before st files a line result is k h =
    subst (λ (r : Result Found Fault). Goes common raw (IsState raw s n) before st (record st { files = files }) result r)
    (sym (ap (λ (o : Option ℕ). map_ok (found_in []) (if names_file a.pair.name then file_by o s a else Ok (constant_value a))) (sym is) ∙ constant_found s a line))
    (by result h) where
      by : {Z : Type 0} → (r : Result Z ReadErr) → SaysConstant s.around.sources line a.pair.name a.at (number_of a.raw) files r
          → Goes common raw (IsState raw s n) before st (record st { files = files }) r (map_ok none_found (number_there s.around.sources line a.pair.name a.at (number_of a.raw)))
      by (Ok y) g =
          subst (λ (r : Result Found Fault). Goes {Y = Unit {0}} common raw (IsState raw s n) before st (record st { files = files }) (Ok tt) r) (sym (ap (map_ok none_found) g.1))
          (added_none common raw (IsState raw s n) before st (record st { files = files }) refl (with_files raw s n before st files g.0 k))
      by (Err NoMemory) g = tt
      by (Err (Refused f)) g = ap (map_ok none_found) g

-- The path of the file that a value numbers.
use Rattle.std.proofs.Common.{◌≡◌, ◌∙◌, ℕ, List, Option, Some, None, Ok, slice_get, refl, sym, ap}
use Rattle.dwz_def_reading.specs.Documents.{File, Value, only}
use Rattle.dwz_def_reading.specs.Entries.{RawAttr}
use Rattle.dwz_def_reading.specs.LineTables.{FileTable, file_table_at}
use Rattle.dwz_def_reading.specs.Meanings.{MeaningContext, number_of, path_by, stmt_list, text_sections_of}
use Rattle.dwz_def_reading.specs.Meant.{file_by, path_or, row_of_table}
use Rattle.dwz_def_reading.proofs.PartLemmas.{bind_ok}
use Rattle.dwz_label_entries.specs.Plain.{KnowsLine}

pub record HasPath (s : MeaningContext ℕ) (a : RawAttr) (v : Value ℕ) (tables : List FileTable) (number : ℕ) : Type 0 where
  pub table : FileTable
  pub there : slice_get tables number ≡ Some table
  pub path : List ℕ
  pub is_path : path_by table (number_of a.raw) ≡ Some path
  pub plain : v.plain ≡ File (Some path)

path_in : (s : MeaningContext ℕ) (a : RawAttr) (v : Value ℕ) (tables : List FileTable) (number : ℕ) (t : FileTable) (o : Option (List ℕ)) → slice_get tables number ≡ Some t
    → path_by t (number_of a.raw) ≡ o → path_or a o ≡ Ok v → HasPath s a v tables number
path_in s a v tables number t None there is e = absurd cc
path_in s a v tables number t (Some path) there is e =
    (let z : only (File (Some path)) ≡ v = cc in record { table = t; there = there; path = path; is_path = is; plain = sym (ap (λ (w : Value ℕ). w.plain) z) })

pub path_there : (s : MeaningContext ℕ) (a : RawAttr) (v : Value ℕ) (tables : List FileTable) (number : ℕ) → KnowsLine s a tables (Some number) → file_by (stmt_list s) s a ≡ Ok v
    → HasPath s a v tables number
path_there s a v tables number h means =
    let e : file_by (Some h.0) s a ≡ Ok v = ap (λ (o : Option ℕ). file_by o s a) (sym h.1) ∙ means in
    let x = bind_ok (file_table_at (text_sections_of s.around.sources) s.around.sources.line h.0) (row_of_table a) v e in
    let read : Ok h.2.table ≡ Ok x.0 = sym h.2.read ∙ x.1 in
    let same : h.2.table ≡ x.0 = cc in
    path_in s a v tables number x.0 (path_by x.0 (number_of a.raw)) (h.2.there ∙ ap (λ (t : FileTable). Some t) same) refl x.2

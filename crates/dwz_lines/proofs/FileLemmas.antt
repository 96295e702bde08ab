-- What stands behind the formats of files, and whole tables.
use Rattle.std.proofs.Common.{◌≡◌, ℕ, Bool, true, false, cond, List, [], length, map, drop, Option, Some, None, Result, Ok, Err, refl, sym, ap, ◌∙◌, inl, inr}
use Rattle.std.specs.Prelude.{◌||◌}
use Rattle.dwz_model.specs.declared.fault.Fault.{Fault}
use Rattle.dwz_model.specs.declared.fault.ReadErr.{ReadErr}
use Rattle.dwz_model.specs.declared.fault.ReadErr.TheVariants.{NoMemory, Refused}
use Rattle.dwz_def_reading.specs.Faults.{Answers, Fails}
use Rattle.dwz_model.specs.declared.place.Pair.{Pair}
use Rattle.dwz_bytes.specs.declared.error.ByteErr.{ByteErr}
use Rattle.dwz_bytes.specs.Input.{Input}
use Rattle.dwz_bytes.specs.Reading.{uleb_at}
use Rattle.dwz_def_reading.specs.LineTables.{FileTable, PathRow, TextSections, bad_line_table, file_table_at, is_header, names_strs, tables_begin, tables_bytes}
use Rattle.dwz_def_reading.proofs.SequenceLemmas.{input_of}
use Rattle.dwz_lines.specs.Headers.{AreTables, NoTables}
use Rattle.dwz_lines.specs.Reading.{Dirs, Misses, TriesAt, bind, dirs_in, files_after, files_behind, files_in, files_of, formats_in, has_dir, path_in, path_of, paths_in, row_in, rows_in, sure}
use Rattle.dwz_lines.specs.Reading.{table_in}
use Rattle.dwz_lines.proofs.LoopLemmas.{as_they_are, times_into}
use Rattle.dwz_lines.proofs.TableLemmas.{no_tables, none_there, table_there}

-- ---- rows of directories, and of files

pub paths_are : (s : TextSections) (pairs : List Pair) (n : ℕ) (i : Input) → paths_in s pairs n i ≡ times_into path_of (row_in s n pairs) [] n i
unfolding paths_in rows_in
paths_are s pairs n i = refl

pub rows_into : (s : TextSections) (pairs : List Pair) (dirs n : ℕ) (i : Input) → rows_in s dirs pairs n i ≡ times_into (λ row. row) (row_in s dirs pairs) [] n i
unfolding rows_in
rows_into s pairs dirs n i = sym (as_they_are (row_in s dirs pairs) n i)

-- ---- files

module _ (s : TextSections) (d : Dirs) (i j k : Input) (pairs : List Pair) (n : ℕ) (formats : formats_in i ≡ Some (pairs, j)) (count : uleb_at j ≡ Ok (n, k)) where
  behind_count : files_in s d i ≡ files_behind s d pairs (n, k)
  unfolding files_in
  behind_count = ap (λ (o : Option (List Pair × Input)). bind o (files_after s d)) formats ∙ ap (λ (r : Result (ℕ × Input) ByteErr). bind (sure r) (files_behind s d pairs)) count

  pub no_dir : has_dir n (length d.paths) ≡ false → files_in s d i ≡ None
  no_dir none = behind_count ∙ ap (λ (b : Bool). cond b (bind (rows_in s (length d.paths) pairs n k) (files_of d pairs)) None) none

  module _ (some : has_dir n (length d.paths) ≡ true) where
    by_rows : files_in s d i ≡ bind (rows_in s (length d.paths) pairs n k) (files_of d pairs)
    by_rows = behind_count ∙ ap (λ (b : Bool). cond b (bind (rows_in s (length d.paths) pairs n k) (files_of d pairs)) None) some

    pub no_rows : rows_in s (length d.paths) pairs n k ≡ None → files_in s d i ≡ None
    no_rows none = by_rows ∙ ap (λ (o : Option (List PathRow × Input)). bind o (files_of d pairs)) none

    pub files_there : (rows : List PathRow) (m : Input) (strp : Bool) → rows_in s (length d.paths) pairs n k ≡ Some (rows, m) → strp ≡ (d.strp || names_strs pairs)
        → files_in s d i ≡ Some (record { paths = map (path_in d.paths) rows; has_strp = strp }, m)
    files_there rows m strp is same =
        by_rows
        ∙ ap (λ (o : Option (List PathRow × Input)). bind o (files_of d pairs)) is
        ∙ ap (λ (b : Bool). Some (record { paths = map (path_in d.paths) rows; has_strp = b }, m)) (sym same)

-- ---- tables

none_left : (s : TextSections) (at : ℕ) → table_in s (input_of at []) ≡ None
unfolding dirs_in formats_in
none_left s at = refl

pub no_table : (s : TextSections) (line : List ℕ) (place : ℕ) → NoTables (drop place line) → file_table_at s line place ≡ Err (bad_line_table place)
no_table s line place (inl other) = none_there s line place other
no_table s line place (inr none) = by (is_header (drop place line)) refl where
  by : (b : Bool) → is_header (drop place line) ≡ b → file_table_at s line place ≡ Err (bad_line_table place)
  by false is = none_there s line place is
  by true is = no_tables s line place is (ap (λ (w : List ℕ). table_in s (input_of (tables_begin (drop place line)) w)) none ∙ none_left s (tables_begin (drop place line)))

module _ (s : TextSections) (line : List ℕ) (place : ℕ) (i : Input) (are : AreTables (drop place line) i) where
  here : i ≡ input_of (tables_begin (drop place line)) (tables_bytes (drop place line))
  here = let at = are.begin in let rest = are.rest in λ n. record { at = at n; rest = rest n }

  pub no_dirs : dirs_in s i ≡ None → file_table_at s line place ≡ Err (bad_line_table place)
  no_dirs none = no_tables s line place are.header (ap (table_in s) (sym here) ∙ ap (λ (o : Option (Dirs × Input)). bind o (λ d. files_in s d.0 d.1)) none)

  module _ (d : Dirs) (j : Input) (dirs : dirs_in s i ≡ Some (d, j)) where
    whole : table_in s (input_of (tables_begin (drop place line)) (tables_bytes (drop place line))) ≡ files_in s d j
    whole = ap (table_in s) (sym here) ∙ ap (λ (o : Option (Dirs × Input)). bind o (λ d. files_in s d.0 d.1)) dirs

    pub no_files : files_in s d j ≡ None → file_table_at s line place ≡ Err (bad_line_table place)
    no_files none = no_tables s line place are.header (whole ∙ none)

    pub all_there : (t : FileTable) (k : Input) → files_in s d j ≡ Some (t, k) → file_table_at s line place ≡ Ok t
    all_there t k some = table_there s line place are.header t k (whole ∙ some)

-- ---- errors

pub misses_same : {X Y : Type 0} (bad : Fault) (e : ReadErr) (a : Option X) (b : Option Y) → (a ≡ None → b ≡ None) → Misses bad e a → Misses bad e b
misses_same bad NoMemory a b same is = tt
misses_same bad (Refused f) a b same is = (is.0, same is.1)

pub misses_fails : {X : Type 0} (bad : Fault) (e : ReadErr) (a : Option X) (r : Result FileTable Fault) → (a ≡ None → r ≡ Err bad) → Misses bad e a → Fails e r
misses_fails bad NoMemory a r same is = tt
misses_fails bad (Refused f) a r same is = same is.1 ∙ ap (λ (g : Fault). Err g) (sym is.0)

pub tries_answers : (bad : Fault) (new : Input) (r : Result FileTable ReadErr) (read : Option (FileTable × Input)) (q : Result FileTable Fault)
    → ((t : FileTable) (k : Input) → read ≡ Some (t, k) → q ≡ Ok t) → (read ≡ None → q ≡ Err bad) → TriesAt (λ t. t) bad new r read → Answers (λ t. t) r q
tries_answers bad new (Ok t) read q some none is = some t new is
tries_answers bad new (Err e) read q some none is = misses_fails bad e read q none is

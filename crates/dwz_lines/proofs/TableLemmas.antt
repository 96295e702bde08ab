-- Directories, files and whole tables, read in one pass.
use Rattle.std.proofs.Common.{◌≡◌, ℕ, zero, suc, Bool, true, false, cond, eqb, List, [], ◌∷◌, length, map, drop, Option, Some, None, Result, Ok, Err, refl, sym, ap, ◌∙◌}
use Rattle.std.specs.Prelude.{◌&&◌, ◌||◌, not}
use Rattle.std.specs.List.{list_all}
use Rattle.dwz_model.specs.declared.fault.Fault.{Fault}
use Rattle.dwz_model.specs.declared.place.Pair.{Pair}
use Rattle.dwz_bytes.specs.declared.error.ByteErr.{ByteErr}
use Rattle.dwz_bytes.specs.Input.{Input}
use Rattle.dwz_bytes.specs.Reading.{◌>>=◌, uleb_at}
use Rattle.dwz_def_reading.specs.Entries.{unless_so}
use Rattle.dwz_def_reading.specs.Values.{Raw}
use Rattle.dwz_def_reading.specs.Exprs.{or_fault}
use Rattle.dwz_def_reading.specs.LineTables.{FileTable, PathRow, Table, TextSections, are_formats, bad_line_table, dir_path, dirs_after as dirs_say_after, file_table, file_table_at}
use Rattle.dwz_def_reading.specs.LineTables.{files_after as files_say_after, formats_at, full_path, is_format, is_header, join, names_strs, one_fault, path_table_at, row_said, rows_at, rows_said}
use Rattle.dwz_def_reading.specs.LineTables.{second}
use Rattle.dwz_def_reading.specs.LineTables.{table_said, table_with, tables_after, tables_at, tables_begin, tables_bytes, tables_with, values_at, with_row}
use Rattle.dwz_def_reading.specs.Sequences.{then_make, then_read, times_at, value_only}
use Rattle.dwz_def_reading.proofs.PartLemmas.{bind_ok}
use Rattle.dwz_def_reading.proofs.SequenceLemmas.{input_of}
use Rattle.dwz_lines.specs.Reading.{Dirs, behind, bind, dirs_in, files_in, formats_in, has_dir, path_in, path_of, path_or_none, rows_in, sure, table_in}
use Rattle.dwz_lines.proofs.PassLemmas.{bind_none, formats_is, if_formats, times_len, times_plain}
use Rattle.dwz_lines.proofs.RowLemmas.{rows_are, rows_say}

-- ---- directories or files

module _ {R : Type 0} (s : TextSections) (bad : Fault) (dirs_for : ℕ → ℕ) (ok : ℕ → Bool) (make : List Pair → List PathRow → R) where
  abbrev counted : List Pair → ℕ × Input → Option (R × Input)
  counted pairs n = cond (ok n.0) (bind (rows_in s (dirs_for n.0) pairs n.0 n.1) (λ r. Some (make pairs r.0, r.1))) None

  abbrev formatted : List Pair × Input → Option (R × Input)
  formatted f = bind (sure (uleb_at f.1)) (counted f.0)

  abbrev said : Table → Option R
  said t = cond (list_all is_format t.formats) (cond (ok (length t.rows)) (bind (sure (rows_said s bad (dirs_for (length t.rows)) t.formats t.rows)) (λ rows. Some (make t.formats rows))) None) None

  abbrev asked : Table × Input → Option (R × Input)
  asked t = bind (said t.0) (behind t.1)

  bad_formats : (f : List Pair × Input) → list_all is_format f.0 ≡ false → (r : Result (List (List Raw) × Input) Fault) → bind (sure (r >>= then_make table_with f.0)) asked ≡ None
  bad_formats f none (Err e) = refl
  bad_formats f none (Ok x) = ap (λ (b : Bool). bind (cond b (cond (ok (length x.0)) (bind (sure (rows_said s bad (dirs_for (length x.0)) f.0 x.0)) (λ rows. Some (make f.0 rows))) None) None)
      (behind x.1)) none

  final : (pairs : List Pair) (j : Input) (r : Result (List PathRow) Fault) → bind (bind (sure r) (behind j)) (λ r. Some (make pairs r.0, r.1)) ≡ bind (bind (sure r) (λ rows. Some (make pairs rows)))
      (behind j)
  final pairs j (Ok rows) = refl
  final pairs j (Err e) = refl

  abbrev end_of : List Pair → List (List Raw) × Input → Bool → Bool → ℕ → Option (R × Input)
  end_of pairs x b c m = bind (cond b (cond c (bind (sure (rows_said s bad (dirs_for m) pairs x.0)) (λ rows. Some (make pairs rows))) None) None) (behind x.1)

  rows_of : (f : List Pair × Input) (n : ℕ × Input) → list_all is_format f.0 ≡ true → (r : Result (List (List Raw) × Input) Fault) → times_at (values_at f.0) n.0 n.1 ≡ r
      → counted f.0 n ≡ bind (sure ((r >>= then_make second n.0) >>= then_make table_with f.0)) asked
  rows_of f n good (Err e) is = by (ok n.0) where
    read : rows_in s (dirs_for n.0) f.0 n.0 n.1 ≡ None
    read = rows_are s bad (dirs_for n.0) f.0 n.0 n.1 ∙ ap (λ (r : Result (List (List Raw) × Input) Fault). bind (sure r) (rows_say s bad (dirs_for n.0) f.0)) is

    by : (b : Bool) → cond b (bind {Y = R × Input} (rows_in s (dirs_for n.0) f.0 n.0 n.1) (λ r. Some (make f.0 r.0, r.1))) None ≡ None
    by true = ap (λ (o : Option (List PathRow × Input)). bind {Y = R × Input} o (λ r. Some (make f.0 r.0, r.1))) read
    by false = refl
  rows_of f n good (Ok x) is = by (ok n.0) refl where
    len : length x.0 ≡ n.0
    len = times_len (λ j. sure (values_at f.0 j)) n.0 n.1 x (sym (times_plain (values_at f.0) n.0 n.1) ∙ ap (λ (r : Result (List (List Raw) × Input) Fault). sure r) is)

    read : rows_in s (dirs_for n.0) f.0 n.0 n.1 ≡ rows_say s bad (dirs_for n.0) f.0 x
    read = rows_are s bad (dirs_for n.0) f.0 n.0 n.1 ∙ ap (λ (r : Result (List (List Raw) × Input) Fault). bind (sure r) (rows_say s bad (dirs_for n.0) f.0)) is

    by : (b : Bool) → ok n.0 ≡ b → cond b (bind (rows_in s (dirs_for n.0) f.0 n.0 n.1) (λ r. Some (make f.0 r.0, r.1))) None ≡ end_of f.0 x (list_all is_format f.0) (ok (length x.0)) (length x.0)
    by true e =
        ap (λ (o : Option (List PathRow × Input)). bind {Y = R × Input} o (λ r. Some (make f.0 r.0, r.1))) read
        ∙ final f.0 x.1 (rows_said s bad (dirs_for n.0) f.0 x.0)
        ∙ sym (λ k. end_of f.0 x (good k) ((ap ok len ∙ e) k) (len k))
    by false e = sym (λ k. end_of f.0 x (good k) ((ap ok len ∙ e) k) (len k))

  count_of : (f : List Pair × Input) → list_all is_format f.0 ≡ true → (r : Result (ℕ × Input) ByteErr)
      → bind (sure r) (counted f.0) ≡ bind (sure ((or_fault bad r >>= then_read (λ n. times_at (values_at f.0) n) second) >>= then_make table_with f.0)) asked
  count_of f good (Err e) = refl
  count_of f good (Ok n) = rows_of f n good (times_at (values_at f.0) n.0 n.1) refl

  pub part_is : (i : Input) → bind (formats_in i) formatted ≡ bind (sure (path_table_at bad i)) asked
  part_is i = ap (λ (o : Option (List Pair × Input)). bind o formatted) (formats_is bad i) ∙ by (formats_at bad i) where
    test : (f : List Pair × Input) (b : Bool) → list_all is_format f.0 ≡ b → bind (cond b (Some f) None) formatted ≡ bind (sure (rows_at bad f.0 f.1 >>= then_make table_with f.0)) asked
    test f true good = count_of f good (uleb_at f.1)
    test f false none = sym (bad_formats f none (rows_at bad f.0 f.1))

    by : (r : Result (List Pair × Input) Fault) → bind (bind (sure r) if_formats) formatted ≡ bind (sure (r >>= then_read (rows_at bad) table_with)) asked
    by (Err e) = refl
    by (Ok f) = test f (list_all is_format f.0) refl

abbrev no_matter : ℕ → Bool
no_matter n = true

abbrev dirs_made : List Pair → List PathRow → Dirs
dirs_made pairs rows = record { paths = map path_of rows; strp = names_strs pairs }

abbrev files_made : Dirs → List Pair → List PathRow → FileTable
files_made d pairs rows = record { paths = map (path_in d.paths) rows; has_strp = d.strp || names_strs pairs }

abbrev dirs_said : TextSections → Fault → Table → Option Dirs
dirs_said s bad t = cond (list_all is_format t.formats) (bind (sure (rows_said s bad (length t.rows) t.formats t.rows)) (λ rows. Some (dirs_made t.formats rows))) None

abbrev files_said : TextSections → Fault → Dirs → Table → Option FileTable
files_said s bad d t = cond (list_all is_format t.formats) (cond (has_dir (length t.rows) (length d.paths))
    (bind (sure (rows_said s bad (length d.paths) t.formats t.rows)) (λ rows. Some (files_made d t.formats rows))) None) None

dirs_are : (s : TextSections) (bad : Fault) (i : Input) → dirs_in s i ≡ bind (sure (path_table_at bad i)) (λ t. bind (dirs_said s bad t.0) (behind t.1))
unfolding dirs_in
dirs_are s bad i = part_is s bad (λ n. n) no_matter dirs_made i

files_are : (s : TextSections) (bad : Fault) (d : Dirs) (i : Input) → files_in s d i ≡ bind (sure (path_table_at bad i)) (λ t. bind (files_said s bad d t.0) (behind t.1))
unfolding files_in
files_are s bad d i = part_is s bad (λ n. length d.paths) (λ n. has_dir n (length d.paths)) (files_made d) i

-- ---- what both say

abbrev okay : List PathRow → Result (List PathRow) Fault
okay rows = Ok rows

said_len : (s : TextSections) (bad : Fault) (dirs : ℕ) (pairs : List Pair) (table : List (List Raw)) (rows : List PathRow) → rows_said s bad dirs pairs table ≡ Ok rows → length rows ≡ length table
unfolding rows_said
said_len s bad dirs pairs [] rows is = let same = same_rows [] rows is in ap (λ (w : List PathRow). length w) (sym same) where
  same_rows : (a b : List PathRow) → okay a ≡ okay b → a ≡ b
  same_rows a b e = cc
said_len s bad dirs pairs (raws ∷ table) rows is =
    let b = bind_ok (row_said s bad dirs pairs raws) (λ row. rows_said s bad dirs pairs table >>= with_row row) rows is in
    let e = bind_ok (rows_said s bad dirs pairs table) (with_row b.0) rows b.2 in
    let same = same_rows (b.0 ∷ e.0) rows e.2 in
    ap (λ (w : List PathRow). length w) (sym same) ∙ ap (λ (m : ℕ). suc m) (said_len s bad dirs pairs table e.0 e.1) where
      same_rows : (a b : List PathRow) → okay a ≡ okay b → a ≡ b
      same_rows a b e = cc

paths_len : (rows : List PathRow) → length (map path_of rows) ≡ length rows
paths_len [] = refl
paths_len (row ∷ rows) = ap (λ (n : ℕ). suc n) (paths_len rows)

dir_is : (rows : List PathRow) (n : ℕ) → path_or_none (map path_of rows) n ≡ dir_path rows n
dir_is [] n = refl
dir_is (row ∷ rows) zero = refl
dir_is (row ∷ rows) (suc n) = dir_is rows n

path_is : (dirs : List PathRow) (row : PathRow) → path_in (map path_of dirs) row ≡ full_path dirs row
path_is dirs row = λ k. cond (eqb row.dir 0) (join (dir_is dirs 0 k) row.path) (join (join (dir_is dirs 0 k) (dir_is dirs row.dir k)) row.path)

module _ (s : TextSections) (bad : Fault) (a b : Table) where
  made_same : (r : Result (List PathRow) Fault) (dirs : List PathRow) → sure (r >>= file_table (tables_with a b) dirs)
      ≡ bind (sure r) (λ rows. Some (files_made (dirs_made a.formats dirs) b.formats rows))
  made_same (Err e) dirs = refl
  made_same (Ok files) dirs =
      let same : (row : PathRow) → full_path dirs row ≡ path_in (map path_of dirs) row = λ row. sym (path_is dirs row) in
      λ k. Some (record { paths = map (λ row. same row k) files; has_strp = names_strs a.formats || names_strs b.formats })

  -- a test of formats and one of directories, behind the directories or before them
  formats_first : (p q h : Bool) (dirs : Option Dirs) (files : Dirs → Option FileTable)
      → cond (p && (q && h)) (bind dirs files) None ≡ bind (cond p dirs None) (λ d. cond q (cond h (files d) None) None)
  formats_first false q h dirs files = refl
  formats_first true true true dirs files = refl
  formats_first true true false dirs files = sym (bind_none dirs)
  formats_first true false h dirs files = sym (bind_none dirs)

  guarded : (t : Bool) (f : Unit {0} → Result FileTable Fault) → sure (unless_so (not t) bad >>= f) ≡ cond t (sure (f tt)) None
  guarded true f = refl
  guarded false f = refl

  abbrev dirs_only : Option Dirs
  dirs_only = bind (sure (rows_said s bad (length a.rows) a.formats a.rows)) (λ rows. Some (dirs_made a.formats rows))

  abbrev files_for : ℕ → Dirs → Option FileTable
  files_for n d = bind (sure (rows_said s bad n b.formats b.rows)) (λ rows. Some (files_made d b.formats rows))

  abbrev files_with : Dirs → Option FileTable
  files_with d = files_for (length a.rows) d

  both_said : sure (dirs_say_after s bad (tables_with a b) tt) ≡ bind dirs_only files_with
  both_said = by (rows_said s bad (length a.rows) a.formats a.rows) where
    by : (r : Result (List PathRow) Fault) → sure (r >>= files_say_after s bad (tables_with a b)) ≡ bind (bind (sure r) (λ rows. Some (dirs_made a.formats rows))) files_with
    by (Err e) = refl
    by (Ok dirs) = made_same (rows_said s bad (length a.rows) b.formats b.rows) dirs

  -- as many directories as rows
  counted_same : bind (dirs_said s bad a) (λ d. cond (list_all is_format b.formats) (cond (has_dir (length b.rows) (length a.rows)) (files_with d) None) None)
      ≡ bind (dirs_said s bad a) (λ d. files_said s bad d b)
  counted_same = by (list_all is_format a.formats) (rows_said s bad (length a.rows) a.formats a.rows) refl where
    by : (p : Bool) (r : Result (List PathRow) Fault) → rows_said s bad (length a.rows) a.formats a.rows ≡ r
        → bind (cond p (bind (sure r) (λ rows. Some (dirs_made a.formats rows))) None)
        (λ d. cond (list_all is_format b.formats) (cond (has_dir (length b.rows) (length a.rows)) (files_with d) None) None)
        ≡ bind (cond p (bind (sure r) (λ rows. Some (dirs_made a.formats rows))) None) (λ d. files_said s bad d b)
    by false r is = refl
    by true (Err e) is = refl
    by true (Ok rows) is =
        let many : length a.rows ≡ length (map path_of rows) = sym (paths_len rows ∙ said_len s bad (length a.rows) a.formats a.rows rows is) in
        λ k. cond (list_all is_format b.formats) (cond (has_dir (length b.rows) (many k)) (files_for (many k) (dirs_made a.formats rows)) None) None

  pub tables_say : sure (table_said s bad (tables_with a b)) ≡ bind (dirs_said s bad a) (λ d. files_said s bad d b)
  tables_say =
      guarded (are_formats (tables_with a b)) (dirs_say_after s bad (tables_with a b))
      ∙ ap (λ (o : Option FileTable). cond (are_formats (tables_with a b)) o None) both_said
      ∙ formats_first (list_all is_format a.formats) (list_all is_format b.formats) (has_dir (length b.rows) (length a.rows)) dirs_only files_with
      ∙ counted_same

-- ---- a table

module _ (s : TextSections) (bad : Fault) (i : Input) where
  parts_are : sure ((tables_at bad i >>= value_only) >>= table_said s bad) ≡ bind (sure (path_table_at bad i)) (λ a. bind (sure (path_table_at bad a.1)) (λ b. sure (table_said s bad (tables_with a.0
      b.0))))
  unfolding tables_at
  parts_are = by (path_table_at bad i) where
    rest : (a : Table) (r : Result (Table × Input) Fault) → sure (((r >>= then_make tables_with a) >>= value_only) >>= table_said s bad)
        ≡ bind (sure r) (λ b. sure (table_said s bad (tables_with a b.0)))
    rest a (Ok b) = refl
    rest a (Err e) = refl

    by : (r : Result (Table × Input) Fault) → sure (((r >>= then_read (λ _. path_table_at bad) tables_with) >>= value_only) >>= table_said s bad)
        ≡ bind (sure r) (λ a. bind (sure (path_table_at bad a.1)) (λ b. sure (table_said s bad (tables_with a.0 b.0))))
    by (Ok a) = rest a.0 (path_table_at bad a.1)
    by (Err e) = refl

  whole_is : sure ((tables_at bad i >>= value_only) >>= table_said s bad) ≡ bind (table_in s i) (λ x. Some x.0)
  whole_is = parts_are ∙ sym (ap (λ (o : Option (Dirs × Input)). bind (bind o (λ d. files_in s d.0 d.1)) (λ x. Some x.0)) (dirs_are s bad i) ∙ by (path_table_at bad i)) where
    last : (o : Option FileTable) (j : Input) → bind (bind o (behind j)) (λ x. Some x.0) ≡ o
    last None j = refl
    last (Some t) j = refl

    files_of_part : (d : Dirs) (r : Result (Table × Input) Fault) → bind (bind (sure r) (λ t. bind (files_said s bad d t.0) (behind t.1))) (λ x. Some x.0) ≡ bind (sure r) (λ b. files_said s bad d b.0)
    files_of_part d (Err e) = refl
    files_of_part d (Ok b) = last (files_said s bad d b.0) b.1

    dirs_of_part : (a : Table × Input) (o : Option Dirs) → bind (bind (bind o (behind a.1)) (λ d. files_in s d.0 d.1)) (λ x. Some x.0)
        ≡ bind (sure (path_table_at bad a.1)) (λ b. bind o (λ d. files_said s bad d b.0))
    dirs_of_part a None = sym (bind_none (sure (path_table_at bad a.1)))
    dirs_of_part a (Some d) = ap (λ (o : Option (FileTable × Input)). bind o (λ x. Some x.0)) (files_are s bad d a.1) ∙ files_of_part d (path_table_at bad a.1)

    by : (r : Result (Table × Input) Fault) → bind (bind (bind (sure r) (λ t. bind (dirs_said s bad t.0) (behind t.1))) (λ d. files_in s d.0 d.1)) (λ x. Some x.0)
        ≡ bind (sure r) (λ a. bind (sure (path_table_at bad a.1)) (λ b. sure (table_said s bad (tables_with a.0 b.0))))
    by (Err e) = refl
    by (Ok a) = let same : (b : Table × Input) → bind (dirs_said s bad a.0) (λ d. files_said s bad d b.0) ≡ sure (table_said s bad (tables_with a.0 b.0)) =
        λ b. sym (tables_say s bad a.0 b.0) in dirs_of_part a (dirs_said s bad a.0) ∙ (λ k. bind (sure (path_table_at bad a.1)) (λ b. same b k))

-- ---- what stands at a place

module _ (s : TextSections) (line : List ℕ) (place : ℕ) where
  pub none_there : is_header (drop place line) ≡ false → file_table_at s line place ≡ Err (bad_line_table place)
  unfolding file_table_at
  none_there other = ap (λ (b : Bool). one_fault (bad_line_table place) (unless_so (not b) (bad_line_table place) >>= tables_after s (bad_line_table place) (drop place line))) other

  module _ (yes : is_header (drop place line) ≡ true) where
    begun : file_table_at s line place ≡ one_fault (bad_line_table place) (tables_after s (bad_line_table place) (drop place line) tt)
    unfolding file_table_at
    begun = ap (λ (b : Bool). one_fault (bad_line_table place) (unless_so (not b) (bad_line_table place) >>= tables_after s (bad_line_table place) (drop place line))) yes

    answered : sure (tables_after s (bad_line_table place) (drop place line) tt) ≡ bind (table_in s (input_of (tables_begin (drop place line)) (tables_bytes (drop place line)))) (λ x. Some x.0)
    answered = whole_is s (bad_line_table place) (input_of (tables_begin (drop place line)) (tables_bytes (drop place line)))

    is_none : (t : FileTable) → sure {E = Fault} (Err (bad_line_table place)) ≡ Some t → ⊥
    is_none t e = cc

    by_answer : (r : Result FileTable Fault) (o : Option FileTable) → sure r ≡ o → (t : FileTable) → o ≡ Some t → one_fault (bad_line_table place) r ≡ Ok t
    by_answer (Ok u) o is t some = let same : Some u ≡ Some t = is ∙ some in let e : u ≡ t = cc in ap (λ (w : FileTable). Ok w) e
    by_answer (Err e) o is t some = absurd (is_none t (is ∙ some))

    by_none : (r : Result FileTable Fault) (o : Option FileTable) → sure r ≡ o → o ≡ None → one_fault (bad_line_table place) r ≡ Err (bad_line_table place)
    by_none (Ok u) o is none = absurd (let no : Some u ≡ None = is ∙ none in cc)
    by_none (Err e) o is none = refl

    pub table_there : (t : FileTable) (j : Input) → table_in s (input_of (tables_begin (drop place line)) (tables_bytes (drop place line))) ≡ Some (t, j) → file_table_at s line place ≡ Ok t
    table_there t j is = begun ∙ by_answer (tables_after s (bad_line_table place) (drop place line) tt) _ answered t (ap (λ (o : Option (FileTable × Input)). bind o (λ x. Some x.0)) is)

    pub no_tables : table_in s (input_of (tables_begin (drop place line)) (tables_bytes (drop place line))) ≡ None → file_table_at s line place ≡ Err (bad_line_table place)
    no_tables is = begun ∙ by_none (tables_after s (bad_line_table place) (drop place line) tt) _ answered (ap (λ (o : Option (FileTable × Input)). bind o (λ x. Some x.0)) is)

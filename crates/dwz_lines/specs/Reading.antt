-- How a line table is read in one pass, whichever fault it has. An inner definition: proofs show that it gives what `file_table_at` does.
use Rattle.std.specs.Prelude.{◌≡◌, ℕ, zero, suc, Bool, List, [], ◌∷◌, length, map, Option, Some, None, Result, Ok, Err, unwrap_or, ◌==◌}
use Rattle.std.specs.Prelude.{◌||◌, not, nat_lt, if◌then◌else◌}
use Rattle.dwz_model.specs.declared.fault.Fault.{Fault}
use Rattle.dwz_model.specs.declared.fault.ReadErr.{ReadErr}
use Rattle.dwz_model.specs.declared.fault.ReadErr.TheVariants.{NoMemory, Refused}
use Rattle.dwz_model.specs.declared.place.Pair.{Pair}
use Rattle.dwz_bytes.specs.Input.{Input}
use Rattle.dwz_bytes.specs.Reading.{fixed_at, uleb_at}
use Rattle.dwz_def_reading.specs.Forms.{form_rows}
use Rattle.dwz_def_reading.specs.Values.{Raw, value_at}
use Rattle.dwz_def_reading.specs.LineTables.{FileTable, PathRow, TextSections, format_of, has_its_text, index_in, is_format, join, names_strs}
use Rattle.dwz_def_reading.specs.LineTables.{value_text}

-- ---- answers without their faults

abbrev pub sure : {X E : Type 0} → Result X E → Option X
sure (Ok x) = Some x
sure (Err e) = None

abbrev pub bind : {X Y : Type 0} → Option X → (X → Option Y) → Option Y
bind None f = None
bind (Some x) f = f x

-- what a call on a cursor answered and left is what reading gives
abbrev pub FindsAt : {X Y : Type 0} → (X → Y) → Input → Option X → Option (Y × Input) → Type 0
FindsAt view new None read = read ≡ None
FindsAt view new (Some x) read = read ≡ Some (view x, new)

-- the same, with one fault, unless memory ran out
abbrev pub Misses : {Y : Type 0} → Fault → ReadErr → Option Y → Type 0
Misses bad NoMemory read = Unit {0}
Misses bad (Refused f) read = (f ≡ bad) × (read ≡ None)

abbrev pub TriesAt : {X Y : Type 0} → (X → Y) → Fault → Input → Result X ReadErr → Option (Y × Input) → Type 0
TriesAt view bad new (Ok x) read = read ≡ Some (view x, new)
TriesAt view bad new (Err e) read = Misses bad e read

-- ---- so many items

abbrev pub with_one : {X : Type 0} → X → List X × Input → Option (List X × Input)
with_one x y = Some (x ∷ y.0, y.1)

abbrev pub after_one : {X : Type 0} → (Input → Option (List X × Input)) → X × Input → Option (List X × Input)
after_one read x = bind (read x.1) (with_one x.0)

unfoldable pub times_in : {X : Type 0} → (Input → Option (X × Input)) → ℕ → Input → Option (List X × Input)
times_in item zero i = Some ([], i)
times_in item (suc n) i = bind (item i) (after_one (times_in item n))

-- ---- formats

abbrev pub taken : Pair → Input → Option (Pair × Input)
taken pair j = if is_format pair then Some (pair, j) else None

abbrev pub form_behind : ℕ × Input → Option (Pair × Input)
form_behind n = bind (sure (uleb_at n.1)) (λ m. taken (format_of n.0 m.0) m.1)

abbrev pub format_in : Input → Option (Pair × Input)
format_in i = bind (sure (uleb_at i)) form_behind

unfoldable pub formats_in : Input → Option (List Pair × Input)
formats_in i = bind (sure (fixed_at 1 i)) (λ n. times_in format_in n.0 n.1)

-- ---- rows

-- what was seen of a row so far
pub record Seen : Type 0 where
  pub path : Option (List ℕ)
  pub dir : Option ℕ

abbrev pub seen : Option (List ℕ) → Option ℕ → Seen
seen path dir = record { path = path; dir = dir }

abbrev pub with_text : Option ℕ → Option (List ℕ) → Option Seen
with_text dir None = None
with_text dir (Some path) = Some (seen (Some path) dir)

-- there is one path
abbrev pub with_path : Option (List ℕ) → Option ℕ → Option (List ℕ) → Option Seen
with_path None dir text = with_text dir text
with_path (Some path) dir text = None

-- there is one index at most, and it names one of so many directories
abbrev pub with_dir : ℕ → ℕ → Option (List ℕ) → Option ℕ → Option Seen
with_dir dirs index path None = if nat_lt index dirs then Some (seen path (Some index)) else None
with_dir dirs index path (Some dir) = None

abbrev pub seen_with : TextSections → ℕ → Pair → Raw → Seen → Option Seen
seen_with s dirs pair raw t =
    if pair.name == 1 then with_path t.path t.dir (value_text s pair.form raw)
    else (if not (has_its_text s pair raw) then None
    else (if pair.name == 2 then with_dir dirs (index_in raw) t.path t.dir else Some t))

unfoldable pub values_in : TextSections → ℕ → List Pair → Seen → Input → Option (Seen × Input)
values_in s dirs [] t i = Some (t, i)
values_in s dirs (pair ∷ pairs) t i =
    bind (sure (value_at form_rows pair i)) (λ x. bind (seen_with s dirs pair x.0 t) (λ u. values_in s dirs pairs u x.1))

abbrev pub row_from : Option (List ℕ) → Option ℕ → Option PathRow
row_from None dir = None
row_from (Some path) dir = Some (record { path = path; dir = unwrap_or dir 0 })

abbrev pub row_of : Seen → Option PathRow
row_of t = row_from t.path t.dir

abbrev pub behind : {X : Type 0} → Input → X → Option (X × Input)
behind j x = Some (x, j)

abbrev pub then_row : Seen × Input → Option (PathRow × Input)
then_row x = bind (row_of x.0) (behind x.1)

unfoldable pub row_in : TextSections → ℕ → List Pair → Input → Option (PathRow × Input)
row_in s dirs pairs i = bind (values_in s dirs pairs (seen None None) i) then_row

-- ---- directories and files

abbrev pub path_of : PathRow → List ℕ
path_of row = row.path

pub record Dirs : Type 0 where
  pub paths : List (List ℕ)
  pub strp : Bool

unfoldable pub rows_in : TextSections → ℕ → List Pair → ℕ → Input → Option (List PathRow × Input)
rows_in s dirs pairs n i = times_in (row_in s dirs pairs) n i

-- the paths of so many directories
unfoldable pub paths_in : TextSections → List Pair → ℕ → Input → Option (List (List ℕ) × Input)
paths_in s pairs n i = bind (rows_in s n pairs n i) (λ r. Some (map path_of r.0, r.1))

abbrev pub dirs_of : List Pair → List PathRow × Input → Option (Dirs × Input)
dirs_of pairs r = Some (record { paths = map path_of r.0; strp = names_strs pairs }, r.1)

abbrev pub dirs_behind : TextSections → List Pair → ℕ × Input → Option (Dirs × Input)
dirs_behind s pairs n = bind (rows_in s n.0 pairs n.0 n.1) (dirs_of pairs)

abbrev pub dirs_after : TextSections → List Pair × Input → Option (Dirs × Input)
dirs_after s f = bind (sure (uleb_at f.1)) (dirs_behind s f.0)

unfoldable pub dirs_in : TextSections → Input → Option (Dirs × Input)
dirs_in s i = bind (formats_in i) (dirs_after s)

-- the path with a number, and an empty one where there is none
abbrev pub path_or_none : List (List ℕ) → ℕ → List ℕ
path_or_none [] n = []
path_or_none (path ∷ paths) zero = path
path_or_none (path ∷ paths) (suc n) = path_or_none paths n

-- the path of a file whose directory has a path, seen from the first directory
abbrev pub path_with : List ℕ → List ℕ → PathRow → List ℕ
path_with first dir row = if row.dir == 0 then join first row.path else join (join first dir) row.path

abbrev pub path_in : List (List ℕ) → PathRow → List ℕ
path_in dirs row = path_with (path_or_none dirs 0) (path_or_none dirs row.dir) row

abbrev pub files_of : Dirs → List Pair → List PathRow × Input → Option (FileTable × Input)
files_of d pairs r = Some (record { paths = map (path_in d.paths) r.0; has_strp = d.strp || names_strs pairs }, r.1)

abbrev pub has_dir : ℕ → ℕ → Bool
has_dir files dirs = not (nat_lt 0 files) || nat_lt 0 dirs

abbrev pub files_behind : TextSections → Dirs → List Pair → ℕ × Input → Option (FileTable × Input)
files_behind s d pairs n = if has_dir n.0 (length d.paths) then bind (rows_in s (length d.paths) pairs n.0 n.1) (files_of d pairs) else None

abbrev pub files_after : TextSections → Dirs → List Pair × Input → Option (FileTable × Input)
files_after s d f = bind (sure (uleb_at f.1)) (files_behind s d f.0)

unfoldable pub files_in : TextSections → Dirs → Input → Option (FileTable × Input)
files_in s d i = bind (formats_in i) (files_after s d)

abbrev pub table_in : TextSections → Input → Option (FileTable × Input)
table_in s i = bind (dirs_in s i) (λ d. files_in s d.0 d.1)

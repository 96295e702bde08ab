-- The number of a path is that of a row of the table, and fits.
use Rattle.std.proofs.Common.{◌≡◌, ℕ, suc, ◌+◌, ◌<◌, ◌^◌, Bool, true, false, List, [], ◌∷◌, if◌then◌else◌, length, Some, refl, sym, ap, ◌∙◌, arith}
use Rattle.std.proofs.lemmas.Bool.{ltb-true}
use Rattle.std.proofs.lemmas.List.{length-map}
use Rattle.dwz_def_reading.specs.Pair.{Pair}
use Rattle.dwz_def_reading.specs.LineTables.{FileTable, IsFileTable, PathRow, SayRows, Table, Tables, TextSections, full_path, nth_path}
use Rattle.dwz_def_reading.specs.Values.{Raw}
use Rattle.dwz_def_tops.specs.Spots.{same_numbers}
use Rattle.dwz_def_tops.proofs.SpotLemmas.{numbers_true}
use Rattle.dwz_def_expand.specs.Chosen.{row_of_path}

-- the row with that number has the path
pub record IsRowAt (paths : List (List ℕ)) (path : List ℕ) (k : ℕ) : Type 0 where
  pub is_path : nth_path paths k ≡ Some path
  pub less : k < length paths

pub row_found : (n : ℕ) (paths : List (List ℕ)) (path : List ℕ) (m : ℕ) → row_of_path n paths path ≡ Some m → (k : ℕ) × (m ≡ n + k) × IsRowAt paths path k
unfolding row_of_path nth_path
row_found n [] path m e = absurd cc
row_found n (p ∷ paths) path m e = by (same_numbers p path) refl e (row_found (suc n) paths path m) where
  by : (b : Bool) → same_numbers p path ≡ b → (if b then Some n else row_of_path (suc n) paths path) ≡ Some m
      → (row_of_path (suc n) paths path ≡ Some m → (k : ℕ) × (m ≡ suc n + k) × IsRowAt paths path k) → (k : ℕ) × (m ≡ n + k) × IsRowAt (p ∷ paths) path k
  by true is e rest =
      let same : n ≡ m = cc in (0, sym same ∙ (let z : n ≡ n + 0 = omega arith in z), record { is_path = ap (λ (w : List ℕ). Some w) (numbers_true p path is); less = omega arith })
  by false is e rest =
      let o = rest e in
      let less = o.2.less in
      (suc o.0, o.1 ∙ (let z : suc n + o.0 ≡ n + suc o.0 = omega arith in z), record { is_path = o.2.is_path; less = omega (arith, less) })

say_rows : (s : TextSections) (dirs : ℕ) (formats : List Pair) (table : List (List Raw)) (rows : List PathRow) → SayRows s dirs formats table rows → length rows ≡ length table
say_rows s dirs formats [] [] h = refl
say_rows s dirs formats [] (r ∷ rows) h = absurd h
say_rows s dirs formats (t ∷ table) [] h = absurd h
say_rows s dirs formats (t ∷ table) (r ∷ rows) h = ap suc (say_rows s dirs formats table rows h.1)

-- a table has no more rows than its count says
pub rows_few : (s : TextSections) (line : List ℕ) (place : ℕ) (t : FileTable) → IsFileTable s line place t → length t.paths < 2 ^ 64
rows_few s line place t is =
    let both = is.stand.spelled in
    let files = both.both.second in
    let count = files.both.second in
    let table : is.tables.files.rows ≡ both.y.rows = ap (λ (w : Tables). w.files.rows) both.made in
    let rows : both.y.rows ≡ files.y = ap (λ (w : Table). w.rows) files.made in
    let few = ltb-true count.x (2 ^ 64) count.both.first.in_range in
    let many : length is.says.files ≡ length is.tables.files.rows = say_rows s _ _ is.tables.files.rows is.says.files is.says.files_say in
    let paths : length t.paths ≡ length is.says.files = ap (λ (w : FileTable). length w.paths) is.says.made ∙ length-map is.says.files (full_path is.says.dirs) in
    omega (arith, few, count.both.second.0, ap length count.made, ap length rows, ap length table, many, paths)

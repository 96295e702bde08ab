-- What is written of a header.
use Rattle.std.proofs.Common.{◌≡◌, ℕ, suc, ◌+◌, ◌<◌, ◌≤◌, List, [], ◌∷◌, ◌++◌, length, drop, get_or, refl, sym, ap, ◌∙◌, append_assoc, arith}
use Rattle.std.specs.Int.{to_le_bytes, w32}
use Rattle.std.proofs.Math.Nat.{div-one}
use Rattle.std.proofs.lemmas.List.{at_drop_all, at_drop_more, length-append}
use Rattle.dwz_bytes.specs.Spelling.{le_bytes, uleb}
use Rattle.dwz_bytes.proofs.LowBytes.{low_first}
use Rattle.dwz_def_reading.specs.LinesWritten.{behind_length, file_formats, header_written, one_directory, rows_bytes, standard, tables_written, with_row_0}

-- ---- numbers of four bytes

four_of : List ℕ → List ℕ
four_of w = get_or w 0 0 ∷ get_or w 1 0 ∷ get_or w 2 0 ∷ get_or w 3 0 ∷ []

four_same : (n : ℕ) → four_of (le_bytes 4 n) ≡ le_bytes 4 n
unfolding le_bytes four_of
four_same n = refl

four_bytes : (n : ℕ) (w : List ℕ) → w ≡ to_le_bytes w32 n → four_of w ≡ le_bytes 4 n
four_bytes n w is = ap four_of (is ∙ low_first 4 0 n ∙ ap (le_bytes 4) (div-one n)) ∙ four_same n

two_bytes : le_bytes 2 5 ≡ 5 ∷ 0 ∷ []
unfolding le_bytes
two_bytes = refl

pub first_bytes : (unit header : ℕ) (u h : List ℕ) → u ≡ to_le_bytes w32 unit → h ≡ to_le_bytes w32 header
    → get_or u 0 0 ∷ get_or u 1 0 ∷ get_or u 2 0 ∷ get_or u 3 0 ∷ 5 ∷ 0 ∷ 8 ∷ 0 ∷ get_or h 0 0 ∷ get_or h 1 0 ∷ get_or h 2 0 ∷ get_or h 3 0 ∷ []
    ≡ le_bytes 4 unit ++ (le_bytes 2 5 ++ (8 ∷ 0 ∷ [] ++ le_bytes 4 header))
unfolding four_of
first_bytes unit header u h is_unit is_header =
    let a = four_bytes unit u is_unit in
    let b = four_bytes header h is_header in
    λ n. a n ++ (sym two_bytes n ++ (8 ∷ 0 ∷ b n))

-- ---- rows

pub one_row : (paths : List (List ℕ)) (k : ℕ) (d : List ℕ) → k < length paths → rows_bytes (drop k paths) ≡ (get_or paths k d ++ 0 ∷ 0 ∷ []) ++ rows_bytes (drop (k + 1) paths)
unfolding rows_bytes
one_row paths k d lt = at_drop_more rows_bytes paths k d lt

pub no_rows : (paths : List (List ℕ)) (k : ℕ) → length paths ≤ k → rows_bytes (drop k paths) ≡ []
unfolding rows_bytes
no_rows paths k le = at_drop_all rows_bytes paths k le

front_is : (standard ++ one_directory) ++ file_formats ≡ 0x01 ∷ 0x01 ∷ 0x01 ∷ 0xfb ∷ 0x0e ∷ 0x0d ∷ 0x00 ∷ 0x01 ∷ 0x01 ∷ 0x01 ∷ 0x01 ∷ 0x00 ∷ 0x00 ∷ 0x00 ∷ 0x01 ∷ 0x00 ∷ 0x00 ∷ 0x01 ∷ 0x01 ∷ 0x01
    ∷ 0x08 ∷ 0x01 ∷ 0x00 ∷ 0x02 ∷ 0x01 ∷ 0x08 ∷ 0x02 ∷ 0x0f ∷ []
unfolding standard one_directory file_formats
front_is = refl

row_0 : (paths : List (List ℕ)) → 0 < length paths → (d : List ℕ) → rows_bytes (with_row_0 paths) ≡ (get_or paths 0 d ++ 0 ∷ 0 ∷ []) ++ rows_bytes paths
unfolding rows_bytes
row_0 [] some d = absurd (omega (arith, some))
row_0 (path ∷ paths) some d = refl

rows_len : (paths : List (List ℕ)) → 0 < length paths → length (with_row_0 paths) ≡ length paths + 1
rows_len [] some = absurd (omega (arith, some))
rows_len (path ∷ paths) some = omega arith

-- the front, how many rows there are, and the first of them, and then the others
pub all_written : (paths : List (List ℕ)) (d front : List ℕ) → 0 < length paths
    → front ≡ 0x01 ∷ 0x01 ∷ 0x01 ∷ 0xfb ∷ 0x0e ∷ 0x0d ∷ 0x00 ∷ 0x01 ∷ 0x01 ∷ 0x01 ∷ 0x01 ∷ 0x00 ∷ 0x00 ∷ 0x00 ∷ 0x01 ∷ 0x00 ∷ 0x00 ∷ 0x01 ∷ 0x01 ∷ 0x01 ∷ 0x08 ∷ 0x01 ∷ 0x00 ∷ 0x02 ∷ 0x01 ∷ 0x08 ∷ 0x02
    ∷ 0x0f ∷ []
    → ((front ++ uleb (length paths + 1)) ++ (get_or paths 0 d ++ 0 ∷ 0 ∷ [])) ++ rows_bytes paths ≡ tables_written paths
all_written paths d front some is =
    append_assoc (front ++ uleb (length paths + 1)) (get_or paths 0 d ++ 0 ∷ 0 ∷ []) (rows_bytes paths)
    ∙ append_assoc front (uleb (length paths + 1)) ((get_or paths 0 d ++ 0 ∷ 0 ∷ []) ++ rows_bytes paths)
    ∙ ap (λ (w : List ℕ). w ++ (uleb (length paths + 1) ++ ((get_or paths 0 d ++ 0 ∷ 0 ∷ []) ++ rows_bytes paths))) (is ∙ sym front_is)
    ∙ ap (λ (n : ℕ). ((standard ++ one_directory) ++ file_formats) ++ (uleb n ++ ((get_or paths 0 d ++ 0 ∷ 0 ∷ []) ++ rows_bytes paths))) (sym (rows_len paths some))
    ∙ ap (λ (w : List ℕ). ((standard ++ one_directory) ++ file_formats) ++ (uleb (length (with_row_0 paths)) ++ w)) (sym (row_0 paths some d))

-- ---- the whole header

four_len : (n : ℕ) → length (le_bytes 4 n) ≡ 4
unfolding le_bytes
four_len n = refl

two_len : (n : ℕ) → length (le_bytes 2 n) ≡ 2
unfolding le_bytes
two_len n = refl

pub behind_len : (tables : List ℕ) → length (behind_length tables) ≡ length tables + 8
behind_len tables =
    let sizes : length (8 ∷ 0 ∷ le_bytes 4 (length tables)) ≡ 6 = ap (λ (n : ℕ). suc (suc n)) (four_len (length tables)) in
    omega (arith, length-append (le_bytes 2 5 ++ (8 ∷ 0 ∷ le_bytes 4 (length tables))) tables, length-append (le_bytes 2 5) (8 ∷ 0 ∷ le_bytes 4 (length tables)), two_len 5, sizes)

pub header_len : (paths : List (List ℕ)) → length (header_written paths) ≡ length (tables_written paths) + 12
header_len paths =
    let tables = tables_written paths in
    omega (arith, length-append (le_bytes 4 (length (behind_length tables))) (behind_length tables), four_len (length (behind_length tables)), behind_len tables)

pub header_is : (paths : List (List ℕ)) (before tables : List ℕ) → tables ≡ tables_written paths
    → before ≡ le_bytes 4 (length tables + 8) ++ (le_bytes 2 5 ++ (8 ∷ 0 ∷ [] ++ le_bytes 4 (length tables)))
    → before ++ tables ≡ header_written paths
header_is paths before tables is first =
    ap (λ (w : List ℕ). w ++ tables) first
    ∙ append_assoc (le_bytes 4 (length tables + 8)) (le_bytes 2 5 ++ (8 ∷ 0 ∷ le_bytes 4 (length tables))) tables
    ∙ ap (λ (n : ℕ). le_bytes 4 n ++ behind_length tables) (sym (behind_len tables))
    ∙ ap (λ (w : List ℕ). le_bytes 4 (length (behind_length w)) ++ behind_length w) is

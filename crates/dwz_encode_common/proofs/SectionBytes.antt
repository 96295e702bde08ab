-- A section of texts is written text by text; and a header of a line table has as many bytes as its paths with a zero byte after each, and
-- those that come with them.
use Rattle.std.proofs.Common.{◌≡◌, ℕ, zero, suc, ◌+◌, ◌<◌, ◌≤◌, List, [], ◌∷◌, ◌++◌, length, drop, take, take_all, get_or, None, Some, slice_get, refl, sym, ap, ◌∙◌, append_assoc, arith}
use Rattle.std.proofs.lemmas.List.{append-nil, at_drop_all, at_drop_more, length-append}
use Rattle.std.proofs.lemmas.Option.{get_or_from_slice_get}
use Rattle.dwz_bytes.specs.Spelling.{uleb}
use Rattle.dwz_def_reading.specs.TextRows.{text_section}
use Rattle.dwz_def_reading.proofs.ListFacts.{got_below, got_there}
use Rattle.dwz_def_reading.specs.LinesWritten.{file_formats, header_written, one_directory, rows_bytes, standard, with_row_0}
use Rattle.dwz_lines.proofs.WriteLemmas.{header_len}
use Rattle.dwz_def_encoding.specs.Placing.{texts_bytes}

-- ---- texts

pub texts_are : (ts : List (List ℕ)) → texts_bytes ts ≡ text_section ts
unfolding texts_bytes
texts_are [] = refl
texts_are (t ∷ ts) = ap (λ (w : List ℕ). t ++ 0 ∷ w) (texts_are ts) ∙ sym (append_assoc t (0 ∷ []) (text_section ts))

one_text : (ts : List (List ℕ)) (k : ℕ) (t : List ℕ) → slice_get ts k ≡ Some t
    → texts_bytes (drop k ts) ≡ t ++ 0 ∷ texts_bytes (drop (k + 1) ts)
unfolding texts_bytes
one_text ts k t is =
    let more : texts_bytes (drop k ts) ≡ get_or ts k t ++ 0 ∷ texts_bytes (drop (k + 1) ts) =
    at_drop_more texts_bytes ts k t (got_below ts k t is) in
    more ∙ ap (λ (w : List ℕ). w ++ 0 ∷ texts_bytes (drop (k + 1) ts)) (get_or_from_slice_get ts k t t is)

-- the next text is written
pub next_text : (own ts : List (List ℕ)) (k : ℕ) (t out now put : List ℕ) → own ≡ ts → Some t ≡ slice_get own k
    → put ≡ out ++ t → now ≡ put ++ 0 ∷ [] → out ++ texts_bytes (drop k ts) ≡ texts_bytes ts
    → now ++ texts_bytes (drop (k + 1) ts) ≡ texts_bytes ts
next_text own ts k t out now put same got first second so_far =
    let rest = texts_bytes (drop (k + 1) ts) in
    ap (λ (w : List ℕ). w ++ rest) (second ∙ ap (λ (w : List ℕ). w ++ 0 ∷ []) first)
    ∙ append_assoc (out ++ t) (0 ∷ []) rest ∙ append_assoc out t (0 ∷ rest)
    ∙ ap (λ (w : List ℕ). out ++ w) (sym (one_text ts k t (ap (λ (w : List (List ℕ)). slice_get w k) (sym same) ∙ sym got)))
    ∙ so_far

-- there is one
pub is_there : (own : List (List ℕ)) (k count : ℕ) → count ≡ length own → k < count → None ≡ slice_get own k → ⊥
is_there own k count many lt none =
    let there = got_there own k (omega (arith, many, lt)) in
    let is = there.1 in
    cc

no_text : (ts : List (List ℕ)) (k : ℕ) → length ts ≤ k → texts_bytes (drop k ts) ≡ []
unfolding texts_bytes
no_text ts k le = at_drop_all texts_bytes ts k le

-- all are written
pub all_texts : (own ts : List (List ℕ)) (k count : ℕ) (out : List ℕ) → own ≡ ts → count ≡ length own → count ≤ k
    → out ++ texts_bytes (drop k ts) ≡ texts_bytes ts → out ≡ texts_bytes ts
all_texts own ts k count out same many le so_far =
    let long = ap (λ (w : List (List ℕ)). length w) same in
    sym (append-nil out) ∙ ap (λ (w : List ℕ). out ++ w) (sym (no_text ts k (omega (arith, many, le, long)))) ∙ so_far

pub section_size : (own ts : List (List ℕ)) (out : List ℕ) → own ≡ ts → out ≡ texts_bytes ts → length out ≡ length (text_section own)
section_size own ts out same is =
    ap (λ (w : List ℕ). length w) (is ∙ texts_are ts) ∙ ap (λ (w : List (List ℕ)). length (text_section w)) (sym same)

-- ---- names

take_one : (ts : List (List ℕ)) (k : ℕ) (t : List ℕ) → slice_get ts k ≡ Some t → take (k + 1) ts ≡ take k ts ++ t ∷ []
take_one [] k t is = absurd cc
take_one (x ∷ ts) zero t is = (let same : x ≡ t = cc in ap (λ (w : List ℕ). w ∷ []) same)
take_one (x ∷ ts) (suc k) t is =
    let count : suc k + 1 ≡ suc (k + 1) = omega arith in
    ap (λ (n : ℕ). take n (x ∷ ts)) count ∙ ap (λ (w : List (List ℕ)). x ∷ w) (take_one ts k t is)

pub next_name : (own ts : List (List ℕ)) (k : ℕ) (t name : List ℕ) (names now : List (List ℕ)) → own ≡ ts → Some t ≡ slice_get own k
    → name ≡ t → now ≡ names ++ name ∷ [] → names ≡ take k ts → now ≡ take (k + 1) ts
next_name own ts k t name names now same got copied pushed so_far =
    pushed ∙ (λ i. so_far i ++ copied i ∷ [])
    ∙ sym (take_one ts k t (ap (λ (w : List (List ℕ)). slice_get w k) (sym same) ∙ sym got))

pub all_names : (own ts : List (List ℕ)) (k count : ℕ) (names : List (List ℕ)) → own ≡ ts → count ≡ length own → count ≤ k
    → names ≡ take k ts → names ≡ ts
all_names own ts k count names same many le so_far =
    let long = ap (λ (w : List (List ℕ)). length w) same in
    so_far ∙ take_all k ts (omega (arith, many, le, long))

-- ---- a header

rows_size : (ts : List (List ℕ)) → length (rows_bytes ts) ≡ length (text_section ts) + length ts
unfolding rows_bytes
rows_size [] = refl
rows_size (t ∷ ts) =
    omega (
      arith,
      rows_size ts,
      length-append (t ++ 0 ∷ 0 ∷ []) (rows_bytes ts),
      length-append t (0 ∷ 0 ∷ []),
      length-append (t ++ 0 ∷ []) (text_section ts),
      length-append t (0 ∷ []),
    )

front_size : length ((standard ++ one_directory) ++ file_formats) ≡ 28
unfolding standard one_directory file_formats
front_size = refl

pub size_is : (ts : List (List ℕ)) (first : List ℕ) → slice_get ts 0 ≡ Some first
    → length (header_written ts) ≡ 42 + length (uleb (length ts + 1)) + length first + (length (text_section ts) + length ts)
size_is [] first is = absurd cc
size_is (t ∷ ts) first is =
    let same : length t ≡ length first = cc in
    let paths = t ∷ ts in
    let count : length (with_row_0 paths) ≡ length paths + 1 = omega arith in
    let many = ap (λ (n : ℕ). length (uleb n)) count in
    let rows = rows_bytes (with_row_0 paths) in
    omega (
      arith,
      header_len paths,
      same,
      many,
      front_size,
      rows_size (with_row_0 paths),
      rows_size paths,
      length-append ((standard ++ one_directory) ++ file_formats) (uleb (length (with_row_0 paths)) ++ rows),
      length-append (uleb (length (with_row_0 paths))) rows,
      length-append (t ++ 0 ∷ []) (text_section paths),
      length-append t (0 ∷ []),
    )

-- A row that is asked value by value says what it does once it is read.
use Rattle.std.proofs.Common.{◌≡◌, ℕ, Bool, true, false, cond, eqb, ltb, List, [], ◌∷◌, Option, Some, None, Result, Ok, Err, refl, sym, ap, ◌∙◌, arith}
use Rattle.std.specs.Prelude.{◌&&◌, ◌||◌, is_some, not}
use Rattle.std.proofs.lemmas.Bool.{eqb-true}
use Rattle.dwz_model.specs.declared.fault.Fault.{Fault}
use Rattle.dwz_model.specs.declared.place.Pair.{Pair}
use Rattle.dwz_bytes.specs.Input.{Input}
use Rattle.dwz_bytes.specs.Reading.{◌>>=◌}
use Rattle.dwz_def_reading.specs.Forms.{form_rows}
use Rattle.dwz_def_reading.specs.Entries.{unless_so}
use Rattle.dwz_def_reading.specs.Values.{Raw, value_at}
use Rattle.dwz_def_reading.specs.LineTables.{PathRow, TextSections, are_indexes, first_index, has_its_text, have_their_texts, index_in, is_text_offset, or_bad, row_path, row_said, row_with, rows_said, value_text, values_at}
use Rattle.dwz_def_reading.specs.LineTables.{with_content, with_row}
use Rattle.dwz_def_reading.specs.Sequences.{then_make, then_read, times_at}
use Rattle.dwz_lines.specs.Reading.{Seen, behind, bind, row_from, row_in, row_of, rows_in, seen, seen_with, sure, then_row, values_in, with_dir, with_path}
use Rattle.dwz_lines.proofs.PassLemmas.{bind_assoc, bind_none, bind_same, each_of, said_of, times_plain, times_said, times_same}

-- ---- what is seen of values

unfoldable pub seen_all : TextSections → ℕ → List Pair → List Raw → Seen → Option Seen
seen_all s dirs (pair ∷ pairs) (raw ∷ raws) t = bind (seen_with s dirs pair raw t) (seen_all s dirs pairs raws)
seen_all s dirs _ _ t = Some t

abbrev saw : TextSections → ℕ → List Pair → Seen → List Raw × Input → Option (Seen × Input)
saw s dirs pairs t x = bind (seen_all s dirs pairs x.0 t) (behind x.1)

values_are : (s : TextSections) (dirs : ℕ) (pairs : List Pair) (t : Seen) (i : Input) → values_in s dirs pairs t i ≡ bind (sure (values_at pairs i)) (saw s dirs pairs t)
unfolding values_in values_at seen_all
values_are s dirs [] t i = refl
values_are s dirs (pair ∷ pairs) t i = by (λ u j. values_are s dirs pairs u j) (value_at form_rows pair i) where
  rest : (raw : Raw) (r : Result (List Raw × Input) Fault)
      → bind (seen_with s dirs pair raw t) (λ u. bind (sure r) (saw s dirs pairs u)) ≡ bind (sure (r >>= then_make (λ raw raws. raw ∷ raws) raw)) (saw s dirs (pair ∷ pairs) t)
  rest raw (Err f) = bind_none (seen_with s dirs pair raw t)
  rest raw (Ok y) = sym (bind_assoc (seen_with s dirs pair raw t) (seen_all s dirs pairs y.0) (behind y.1))

  by : ((u : Seen) (j : Input) → values_in s dirs pairs u j ≡ bind (sure (values_at pairs j)) (saw s dirs pairs u)) → (r : Result (Raw × Input) Fault)
      → bind (sure r) (λ x. bind (seen_with s dirs pair x.0 t) (λ u. values_in s dirs pairs u x.1)) ≡ bind (sure (r >>= then_read (λ _. values_at pairs) (λ raw raws. raw ∷ raws)))
      (saw s dirs (pair ∷ pairs) t)
  by others (Err f) = refl
  by others (Ok x) = bind_same (seen_with s dirs pair x.0 t) (λ u. values_in s dirs pairs u x.1) (λ u. bind (sure (values_at pairs x.1)) (saw s dirs pairs u)) (λ u. others u x.1)
      ∙ rest x.0 (values_at pairs x.1)

-- ---- a row

path_from : TextSections → Option (List ℕ) → List (Pair × Raw) → Option (List ℕ)
path_from s path [] = path
path_from s None (x ∷ xs) = bind (value_text s x.0.form x.1) (λ p. path_from s (Some p) xs)
path_from s (Some p) (x ∷ xs) = None

dir_from : Option ℕ → List (Pair × Raw) → ℕ
dir_from None xs = first_index xs
dir_from (Some dir) xs = dir

row_at : ℕ → List ℕ → Option PathRow
row_at dir path = Some (record { path = path; dir = dir })

-- no further index where one was seen
abbrev may_have : ℕ → Option ℕ → List (Pair × Raw) → Bool
may_have dirs None indexes = are_indexes dirs indexes
may_have dirs (Some dir) [] = true
may_have dirs (Some dir) (x ∷ xs) = false

-- what a row says, some of which was seen, and whose texts stand or don't
says : TextSections → ℕ → Option (List ℕ) → Option ℕ → Bool → List (Pair × Raw) → List (Pair × Raw) → Option PathRow
says s dirs path dir stand paths indexes = cond (stand && may_have dirs dir indexes) (bind (path_from s path paths) (row_at (dir_from dir indexes))) None

none_either : (b : Bool) → cond {A = Option PathRow} b None None ≡ None
none_either true = refl
none_either false = refl

nothing_left : (s : TextSections) (dirs : ℕ) (path : Option (List ℕ)) (dir : Option ℕ) → row_from path dir ≡ says s dirs path dir true [] []
unfolding path_from dir_from says row_at
nothing_left s dirs None None = refl
nothing_left s dirs None (Some d) = refl
nothing_left s dirs (Some p) None = refl
nothing_left s dirs (Some p) (Some d) = refl

module _ (s : TextSections) (dirs : ℕ) (pair : Pair) (raw : Raw) (pairs : List Pair) (raws : List Raw)
    (others : (path : Option (List ℕ)) (dir : Option ℕ) → bind (seen_all s dirs pairs raws (seen path dir)) row_of
    ≡ says s dirs path dir (have_their_texts s pairs raws) (with_content 1 pairs raws) (with_content 2 pairs raws)) where
  -- a path whose text stands
  has_path : (text : List ℕ) → value_text s pair.form raw ≡ Some text → has_its_text s pair raw ≡ true
  has_path text is = ap (λ (o : Option (List ℕ)). not (is_text_offset pair.form) || is_some o) is ∙ by (not (is_text_offset pair.form)) where
    by : (b : Bool) → (b || true) ≡ true
    by true = refl
    by false = refl

  a_path : (path : Option (List ℕ)) (dir : Option ℕ) (text : Option (List ℕ)) → value_text s pair.form raw ≡ text
      → bind (bind (with_path path dir text) (seen_all s dirs pairs raws)) row_of
      ≡ says s dirs path dir (has_its_text s pair raw && have_their_texts s pairs raws) ((pair, raw) ∷ with_content 1 pairs raws) (with_content 2 pairs raws)
  unfolding path_from says
  a_path (Some p) dir text is = sym (none_either ((has_its_text s pair raw && have_their_texts s pairs raws) && may_have dirs dir (with_content 2 pairs raws)))
  a_path None dir None is =
      let both = (has_its_text s pair raw && have_their_texts s pairs raws) && may_have dirs dir (with_content 2 pairs raws) in
      sym (none_either both)
      ∙ ap (λ (o : Option (List ℕ)). cond both (bind (bind o (λ p. path_from s (Some p) (with_content 1 pairs raws))) (row_at (dir_from dir (with_content 2 pairs raws)))) None) (sym is)
  a_path None dir (Some text) is =
      others (Some text) dir
      ∙ ap (λ (b : Bool). says s dirs (Some text) dir (b && have_their_texts s pairs raws) (with_content 1 pairs raws) (with_content 2 pairs raws)) (sym (has_path text is))
      ∙ ap (λ (o : Option (List ℕ)). cond ((has_its_text s pair raw && have_their_texts s pairs raws) && may_have dirs dir (with_content 2 pairs raws))
      (bind (bind o (λ p. path_from s (Some p) (with_content 1 pairs raws))) (row_at (dir_from dir (with_content 2 pairs raws)))) None) (sym is)

  -- what follows an index, by whether there is another one
  ends : (path : Option (List ℕ)) (stand : Bool) (paths rest : List (Pair × Raw)) (b : Bool) → ltb (index_in raw) dirs ≡ b
      → cond b (says s dirs path (Some (index_in raw)) stand paths rest) None ≡ says s dirs path None stand paths ((pair, raw) ∷ rest)
  unfolding says dir_from
  ends path false paths rest true is = refl
  ends path false paths rest false is = refl
  ends path true paths [] true is = ap (λ (t : Bool). cond t (bind (path_from s path paths) (row_at (index_in raw))) None) (sym is)
  ends path true paths [] false is = ap (λ (t : Bool). cond t (bind (path_from s path paths) (row_at (index_in raw))) None) (sym is)
  ends path true paths (y ∷ rest) true is = refl
  ends path true paths (y ∷ rest) false is = refl

  a_dir : (path : Option (List ℕ)) (dir : Option ℕ)
      → bind (bind (with_dir dirs (index_in raw) path dir) (seen_all s dirs pairs raws)) row_of
      ≡ says s dirs path dir (have_their_texts s pairs raws) (with_content 1 pairs raws) ((pair, raw) ∷ with_content 2 pairs raws)
  unfolding says
  a_dir path (Some d) = by (have_their_texts s pairs raws) where
    by : (b : Bool) → None ≡ says s dirs path (Some d) b (with_content 1 pairs raws) ((pair, raw) ∷ with_content 2 pairs raws)
    by true = refl
    by false = refl
  a_dir path None = by (ltb (index_in raw) dirs) refl where
    by : (b : Bool) → ltb (index_in raw) dirs ≡ b
        → bind (bind (cond b (Some (seen path (Some (index_in raw)))) None) (seen_all s dirs pairs raws)) row_of
        ≡ says s dirs path None (have_their_texts s pairs raws) (with_content 1 pairs raws) ((pair, raw) ∷ with_content 2 pairs raws)
    by true is = others path (Some (index_in raw)) ∙ ends path (have_their_texts s pairs raws) (with_content 1 pairs raws) (with_content 2 pairs raws) true is
    by false is = ends path (have_their_texts s pairs raws) (with_content 1 pairs raws) (with_content 2 pairs raws) false is

  one_more : (path : Option (List ℕ)) (dir : Option ℕ) (b c : Bool) → eqb pair.name 1 ≡ b → eqb pair.name 2 ≡ c → (t : Bool) → has_its_text s pair raw ≡ t
      → bind (bind (cond b (with_path path dir (value_text s pair.form raw)) (cond (not t) None (cond c (with_dir dirs (index_in raw) path dir) (Some (seen path dir)))))
      (seen_all s dirs pairs raws)) row_of
      ≡ says s dirs path dir (t && have_their_texts s pairs raws) (cond b ((pair, raw) ∷ with_content 1 pairs raws) (with_content 1 pairs raws))
      (cond c ((pair, raw) ∷ with_content 2 pairs raws) (with_content 2 pairs raws))
  unfolding says
  one_more path dir true true is too t has = absurd (let one = eqb-true pair.name 1 is in let two = eqb-true pair.name 2 too in omega (arith, one, two))
  one_more path dir true false is other t has =
      a_path path dir (value_text s pair.form raw) refl
      ∙ ap (λ (b : Bool). says s dirs path dir (b && have_their_texts s pairs raws) ((pair, raw) ∷ with_content 1 pairs raws) (with_content 2 pairs raws)) has
  one_more path dir false c other too false none = refl
  one_more path dir false true other is true has = a_dir path dir
  one_more path dir false false a b true has = others path dir

all_say : (s : TextSections) (dirs : ℕ) (pairs : List Pair) (raws : List Raw) (path : Option (List ℕ)) (dir : Option ℕ)
    → bind (seen_all s dirs pairs raws (seen path dir)) row_of
    ≡ says s dirs path dir (have_their_texts s pairs raws) (with_content 1 pairs raws) (with_content 2 pairs raws)
unfolding seen_all
all_say s dirs [] raws path dir = nothing_left s dirs path dir
all_say s dirs (pair ∷ pairs) [] path dir = nothing_left s dirs path dir
all_say s dirs (pair ∷ pairs) (raw ∷ raws) path dir = one_more s dirs pair raw pairs raws (λ p d. all_say s dirs pairs raws p d) path dir (eqb pair.name 1) (eqb pair.name 2) refl refl
    (has_its_text s pair raw) refl

abbrev pub row_says : TextSections → Fault → ℕ → List Pair → List Raw → Option PathRow
row_says s bad dirs pairs raws = sure (row_said s bad dirs pairs raws)

said_is : (s : TextSections) (bad : Fault) (dirs : ℕ) (pairs : List Pair) (raws : List Raw) → says s dirs None None (have_their_texts s pairs raws) (with_content 1 pairs raws) (with_content 2 pairs raws)
    ≡ row_says s bad dirs pairs raws
unfolding says path_from dir_from row_at
said_is s bad dirs pairs raws = by (have_their_texts s pairs raws && are_indexes dirs (with_content 2 pairs raws)) (with_content 1 pairs raws) where
  one : (d : ℕ) (o : Option (List ℕ)) → bind (bind o (λ p. Some p)) (row_at d) ≡ sure (or_bad bad o >>= row_with d)
  one d None = refl
  one d (Some p) = refl

  by : (b : Bool) (texts : List (Pair × Raw)) → cond b (bind (path_from s None texts) (row_at (first_index (with_content 2 pairs raws)))) None
      ≡ sure (unless_so (not b) bad >>= (λ good. or_bad bad (row_path s texts) >>= row_with (first_index (with_content 2 pairs raws))))
  by false texts = refl
  by true [] = refl
  by true (x ∷ []) = one (first_index (with_content 2 pairs raws)) (value_text s x.0.form x.1)
  by true (x ∷ y ∷ texts) = ap (λ (o : Option (List ℕ)). bind o (row_at (first_index (with_content 2 pairs raws)))) (bind_none (value_text s x.0.form x.1))

pub row_is : (s : TextSections) (bad : Fault) (dirs : ℕ) (pairs : List Pair) (i : Input) → row_in s dirs pairs i ≡ bind (sure (values_at pairs i)) (said_of (row_says s bad dirs pairs))
unfolding row_in
row_is s bad dirs pairs i = ap (λ (o : Option (Seen × Input)). bind o then_row) (values_are s dirs pairs (seen None None) i) ∙ by (values_at pairs i) where
  swap : (o : Option Seen) (j : Input) → bind (bind o (behind j)) then_row ≡ bind (bind o row_of) (behind j)
  swap None j = refl
  swap (Some t) j = refl

  by : (r : Result (List Raw × Input) Fault) → bind (bind (sure r) (saw s dirs pairs (seen None None))) then_row ≡ bind (sure r) (said_of (row_says s bad dirs pairs))
  by (Err f) = refl
  by (Ok x) =
      swap (seen_all s dirs pairs x.0 (seen None None)) x.1
      ∙ ap (λ (o : Option PathRow). bind o (behind x.1)) (all_say s dirs pairs x.0 None None ∙ said_is s bad dirs pairs x.0)

-- ---- rows

each_row : (s : TextSections) (bad : Fault) (dirs : ℕ) (pairs : List Pair) (table : List (List Raw)) → each_of (row_says s bad dirs pairs) table ≡ sure (rows_said s bad dirs pairs table)
unfolding rows_said
each_row s bad dirs pairs [] = refl
each_row s bad dirs pairs (raws ∷ table) = by (row_said s bad dirs pairs raws) (rows_said s bad dirs pairs table) (each_of (row_says s bad dirs pairs) table) (each_row s bad dirs pairs table) where
  by : (r : Result PathRow Fault) (q : Result (List PathRow) Fault) (o : Option (List PathRow)) → o ≡ sure q
      → bind (sure r) (λ y. bind o (λ ys. Some (y ∷ ys))) ≡ sure (r >>= λ row. q >>= with_row row)
  by (Err f) q o is = refl
  by (Ok row) (Ok rows) o is = ap (λ (w : Option (List PathRow)). bind w (λ ys. Some (row ∷ ys))) is
  by (Ok row) (Err f) o is = ap (λ (w : Option (List PathRow)). bind w (λ ys. Some (row ∷ ys))) is

abbrev pub rows_say : TextSections → Fault → ℕ → List Pair → List (List Raw) × Input → Option (List PathRow × Input)
rows_say s bad dirs pairs x = bind (sure (rows_said s bad dirs pairs x.0)) (behind x.1)

pub rows_are : (s : TextSections) (bad : Fault) (dirs : ℕ) (pairs : List Pair) (n : ℕ) (i : Input) → rows_in s dirs pairs n i ≡ bind (sure (times_at (values_at pairs) n i)) (rows_say s bad dirs pairs)
unfolding rows_in
rows_are s bad dirs pairs n i =
    times_same (row_in s dirs pairs) (λ j. bind (sure (values_at pairs j)) (said_of (row_says s bad dirs pairs))) (row_is s bad dirs pairs) n i
    ∙ times_said (λ j. sure (values_at pairs j)) (row_says s bad dirs pairs) n i
    ∙ ap (λ (o : Option (List (List Raw) × Input)). bind o (said_of (each_of (row_says s bad dirs pairs)))) (sym (times_plain (values_at pairs) n i))
    ∙ bind_same (sure (times_at (values_at pairs) n i)) (said_of (each_of (row_says s bad dirs pairs))) (rows_say s bad dirs pairs)
    (λ x. ap (λ (o : Option (List PathRow)). bind o (behind x.1)) (each_row s bad dirs pairs x.0))

-- Paths by their numbers, and how one is joined.
use Rattle.std.proofs.Common.{◌≡◌, ℕ, zero, suc, ◌≤◌, Bool, true, false, cond, List, [], ◌∷◌, ◌++◌, length, map, take, drop, Some, None, Bor, get_or, ltb, refl, sym, ap, ◌∙◌, append_assoc}
use Rattle.std.proofs.Common.{arith}
use Rattle.std.specs.Prelude.{◌||◌}
use Rattle.std.specs.declared.alloc.AllocError.{AllocError}
use Rattle.std.specs.Prelude.{OnOk, Result, Ok, Err, is_ok, is_some}
use Rattle.std.proofs.lemmas.Bool.{le-ltb, lt-ltb, ltb-false, ltb-true}
use Rattle.std.proofs.lemmas.List.{length-drop, take-append-drop}
use Rattle.dwz_def_reading.specs.LineTables.{begins_with_slash, is_no_path, join, nth_path}
use Rattle.dwz_lines.specs.declared.rows.Row.{Row}
use Rattle.dwz_lines.specs.Reading.{path_in, path_or_none}
use Rattle.dwz_lines.specs.RowViews.{row_view}

-- ---- directories, and paths by number

pub some_dir : (dirs : List (Bor (List ℕ))) (n : ℕ) (p : Bor (List ℕ)) → true ≡ ltb n (length dirs) → p ≡ get_or dirs n p → p.now ≡ path_or_none (map (λ d. d.now) dirs) n
some_dir [] n p lt is = absurd (let less = ltb-true n 0 (sym lt) in omega (arith, less))
some_dir (d ∷ dirs) zero p lt is = ap (λ (q : Bor (List ℕ)). q.now) is
some_dir (d ∷ dirs) (suc n) p lt is = some_dir dirs n p (let less = ltb-true (suc n) (suc (length dirs)) (sym lt) in sym (lt-ltb n (length dirs) (omega (arith, less)))) is

pub none_dir : (dirs : List (Bor (List ℕ))) (n : ℕ) → false ≡ ltb n (length dirs) → [] ≡ path_or_none (map (λ d. d.now) dirs) n
none_dir [] n ge = refl
none_dir (d ∷ dirs) zero ge = absurd (let no = ltb-false 0 (suc (length dirs)) (sym ge) in omega (arith, no))
none_dir (d ∷ dirs) (suc n) ge = none_dir dirs n (let no = ltb-false (suc n) (suc (length dirs)) (sym ge) in sym (le-ltb n (length dirs) (omega (arith, no))))

-- the path of a file in a list of rows
pub some_row : (dirs : List (List ℕ)) (rows : List Row) (n : ℕ) (r : Row) → true ≡ ltb n (length rows) → r ≡ get_or rows n r
    → nth_path (map (path_in dirs) (map row_view rows)) n ≡ Some (path_in dirs (row_view r))
unfolding nth_path
some_row dirs [] n r lt is = absurd (let less = ltb-true n 0 (sym lt) in omega (arith, less))
some_row dirs (t ∷ rows) zero r lt is = ap (λ (q : Row). Some (path_in dirs (row_view q))) (sym is)
some_row dirs (t ∷ rows) (suc n) r lt is = some_row dirs rows n r (let less = ltb-true (suc n) (suc (length rows)) (sym lt) in sym (lt-ltb n (length rows) (omega (arith, less)))) is

pub none_row : (dirs : List (List ℕ)) (rows : List Row) (n : ℕ) → false ≡ ltb n (length rows) → nth_path (map (path_in dirs) (map row_view rows)) n ≡ None
unfolding nth_path
none_row dirs [] n ge = refl
none_row dirs (t ∷ rows) zero ge = absurd (let no = ltb-false 0 (suc (length rows)) (sym ge) in omega (arith, no))
none_row dirs (t ∷ rows) (suc n) ge = none_row dirs rows n (let no = ltb-false (suc n) (suc (length rows)) (sym ge) in sym (le-ltb n (length rows) (omega (arith, no))))

-- a path is there exactly where its number is less than how many there are
pub path_there : (paths : List (List ℕ)) (n : ℕ) → ltb n (length paths) ≡ is_some (nth_path paths n)
unfolding nth_path
path_there [] n = le-ltb n 0 (omega arith)
path_there (p ∷ paths) zero = lt-ltb 0 (suc (length paths)) (omega arith)
path_there (p ∷ paths) (suc n) = by (ltb n (length paths)) refl ∙ path_there paths n where
  by : (b : Bool) → ltb n (length paths) ≡ b → ltb (suc n) (suc (length paths)) ≡ ltb n (length paths)
  by true is = let lt = ltb-true n (length paths) is in lt-ltb (suc n) (suc (length paths)) (omega (arith, lt)) ∙ sym is
  by false is = let ge = ltb-false n (length paths) is in le-ltb (suc n) (suc (length paths)) (omega (arith, ge)) ∙ sym is

-- ---- joining

pub joined : (from : ℕ) (out path : List ℕ) → begins_with_slash path ≡ false → from ≤ length out → (length out ≡ from → ⊥) → (out ++ 47 ∷ []) ++ path ≡ take from out ++ join (drop from out) path
joined from out path slash le more =
    by (drop from out) refl where
      by : (rest : List ℕ) → drop from out ≡ rest → (out ++ 47 ∷ []) ++ path ≡ take from out ++ cond (begins_with_slash path || is_no_path rest) path (rest ++ 0x2f ∷ path)
      by [] none = absurd (more (let len = ap length none in omega (arith, len, length-drop from out, le)))
      by (b ∷ rest) some =
          let whole : out ≡ take from out ++ (b ∷ rest) = sym (take-append-drop from out) ∙ ap (λ (w : List ℕ). take from out ++ w) some in
          append_assoc out (47 ∷ []) path
          ∙ ap (λ (w : List ℕ). w ++ 47 ∷ path) whole
          ∙ append_assoc (take from out) (b ∷ rest) (47 ∷ path)
          ∙ ap (λ (t : Bool). take from out ++ cond (t || false) path ((b ∷ rest) ++ 47 ∷ path)) (sym slash)

-- what was appended, where it was
pub when_ok : (r : Result (Unit {0}) AllocError) (new longer old want : List ℕ) → new ≡ cond (is_ok r) longer old → longer ≡ want → OnOk r (new ≡ want)
when_ok (Ok u) new longer old want is same = is ∙ same
when_ok (Err e) new longer old want is same = tt

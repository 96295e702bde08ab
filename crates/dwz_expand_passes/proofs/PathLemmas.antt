-- Rows by their paths: one row more.
use Rattle.std.proofs.Common.{◌≡◌, ℕ, zero, suc, ◌+◌, ◌<◌, Bool, true, false, List, [], ◌∷◌, ◌++◌, length, take, Option, Some, None, Result, Err, if◌then◌else◌, refl, sym, ap, subst, ◌∙◌, arith, inl}
use Rattle.std.proofs.Common.{inr, bytes_eq}
use Rattle.std.specs.BTreeMap.{BTreeMap, IsEmpty, is_at}
use Rattle.std.specs.Cmp.Lexicographic.{slice_cmp}
use Rattle.std.specs.Map.{lookup}
use Rattle.std.specs.Ordering.{nat_cmp}
use Rattle.std.specs.Global.{Vec}
use Rattle.std.specs.Borrow.{Bor}
use Rattle.std.specs.Option.{is_some, option_copied}
use Rattle.std.proofs.lemmas.Bool.{cases_Bool, false_from_ne_true}
use Rattle.std.proofs.lemmas.Slice.Eq.{bytes_eq-Decides}
use Rattle.dwz_model.specs.declared.fault.Fault.{Fault}
use Rattle.dwz_def_reading.specs.Documents.{File}
use Rattle.dwz_def_reading.specs.LineTables.{FileTable, nth_path}
use Rattle.dwz_def_tops.specs.Spots.{same_numbers}
use Rattle.dwz_def_tops.proofs.SpotLemmas.{numbers_same, numbers_true}
use Rattle.dwz_def_expand.specs.Chosen.{paths_read, row_for, row_of_path}
use Rattle.dwz_expand_passes.specs.Paths.{AreRowsOf, kept_row, row_in}

-- a row that is found stays
row_stays : (n m : ℕ) (paths : List (List ℕ)) (last path : List ℕ) → row_of_path n paths path ≡ Some m → row_of_path n (paths ++ last ∷ []) path ≡ Some m
unfolding row_of_path
row_stays n m [] last path e = absurd cc
row_stays n m (p ∷ paths) last path e = by (same_numbers p path) e (λ f. row_stays (suc n) m paths last path f) where
  by : (b : Bool) → (if b then Some n else row_of_path (suc n) paths path) ≡ Some m → (row_of_path (suc n) paths path ≡ Some m → row_of_path (suc n) (paths ++ last ∷ []) path ≡ Some m)
      → (if b then Some n else row_of_path (suc n) (paths ++ last ∷ []) path) ≡ Some m
  by true e more = e
  by false e more = more e

-- where none is found, the last may be it
row_last : (n m : ℕ) (paths : List (List ℕ)) (last path : List ℕ) → n + length paths ≡ m → row_of_path n paths path ≡ None
    → row_of_path n (paths ++ last ∷ []) path ≡ (if same_numbers last path then Some m else None)
unfolding row_of_path
row_last n m [] last path is e = (let same : n ≡ m = omega arith in ap (λ (k : ℕ). if same_numbers last path then Some k else None) same)
row_last n m (p ∷ paths) last path is e = by (same_numbers p path) e (λ f. row_last (suc n) m paths last path (omega arith) f) where
  by : (b : Bool) → (if b then Some n else row_of_path (suc n) paths path) ≡ None
      → (row_of_path (suc n) paths path ≡ None → row_of_path (suc n) (paths ++ last ∷ []) path ≡ (if same_numbers last path then Some m else None))
      → (if b then Some n else row_of_path (suc n) (paths ++ last ∷ []) path) ≡ (if same_numbers last path then Some m else None)
  by true e more = absurd cc
  by false e more = more e

-- two tests of texts
tests_agree : (a b : List ℕ) → bytes_eq a b ≡ same_numbers a b
tests_agree a b = elim (cases_Bool (bytes_eq a b)) [
  | inl same ↦ (let is = (bytes_eq-Decides a b).0 same in same ∙ sym (subst (λ (c : List ℕ). same_numbers a c ≡ true) is (numbers_same a)))
  | inr differ ↦ differ ∙ sym (false_from_ne_true (same_numbers a b) (λ yes. absurd (let one : bytes_eq a b ≡ true = (bytes_eq-Decides a b).1 (numbers_true a b yes) in cc)))
]

-- a path that has a row already
pub row_kept : (paths : List (List ℕ)) (path : List ℕ) (rows : BTreeMap (Vec ℕ) ℕ) → AreRowsOf paths rows → is_some (kept_row rows path) ≡ true → AreRowsOf (paths ++ path ∷ []) rows
row_kept paths path rows are some other = are other ∙ by (row_of_path 0 paths other) refl where
  by : (o : Option ℕ) → row_of_path 0 paths other ≡ o → row_of_path 0 paths other ≡ row_of_path 0 (paths ++ path ∷ []) other
  by (Some m) e = e ∙ sym (row_stays 0 m paths path other e)
  by None e = elim (cases_Bool (same_numbers path other)) [
    | inl same ↦ absurd (
        let is = numbers_true path other same in
        let none : kept_row rows path ≡ None = are path ∙ ap (λ (t : List ℕ). row_of_path 0 paths t) is ∙ e in
        let no : is_some (kept_row rows path) ≡ false = ap is_some none in
        cc)
    | inr differ ↦ e ∙ sym (row_last 0 (length paths) paths path other (omega arith) e ∙ ap (λ (b : Bool). if b then Some (length paths) else None) differ)
  ]

-- one that gets its row now
pub row_added : (paths : List (List ℕ)) (path : List ℕ) (row : ℕ) (old new : BTreeMap (Vec ℕ) ℕ) → length paths ≡ row → AreRowsOf paths old → is_some (kept_row old path) ≡ false
    → ((other : List ℕ) → kept_row new other ≡ (if bytes_eq path other then Some row else kept_row old other)) → AreRowsOf (paths ++ path ∷ []) new
row_added paths path row old new many are none updates other =
    updates other ∙ ap (λ (b : Bool). if b then Some row else kept_row old other) (tests_agree path other) ∙ by (row_of_path 0 paths other) refl
  where
    absent : (o : Option ℕ) → is_some o ≡ false → o ≡ None
    absent None e = refl
    absent (Some m) e = absurd cc

    by : (o : Option ℕ) → row_of_path 0 paths other ≡ o → (if same_numbers path other then Some row else kept_row old other) ≡ row_of_path 0 (paths ++ path ∷ []) other
    by None e = ap (λ (o : Option ℕ). if same_numbers path other then Some row else o) (are other ∙ e) ∙ sym (row_last 0 row paths path other (omega (arith, many)) e)
    by (Some m) e = elim (cases_Bool (same_numbers path other)) [
      | inl same ↦ absurd (
          let is = numbers_true path other same in
          let gone : kept_row old other ≡ None = subst (λ (t : List ℕ). kept_row old t ≡ None) is (absent (kept_row old path) none) in
          let there : kept_row old other ≡ Some m = are other ∙ e in
          cc)
      | inr differ ↦ ap (λ (b : Bool). if b then Some row else kept_row old other) differ ∙ are other ∙ e ∙ sym (row_stays 0 m paths path other e)
    ]

-- ---- all rows of a table

pub nth_there : (paths : List (List ℕ)) (n : ℕ) (path : List ℕ) → nth_path paths n ≡ Some path → (n < length paths) × (take (n + 1) paths ≡ take n paths ++ path ∷ [])
unfolding nth_path
nth_there [] n path e = absurd cc
nth_there (p ∷ paths) zero path e = (let same : p ≡ path = cc in (omega arith, ap (λ (t : List ℕ). t ∷ []) same))
nth_there (p ∷ paths) (suc n) path e =
    let r = nth_there paths n path e in
    let lt = r.0 in
    let at : suc n + 1 ≡ suc (n + 1) = omega arith in
    (omega arith, ap (λ (k : ℕ). take k (p ∷ paths)) at ∙ ap (λ (w : List (List ℕ)). p ∷ w) r.1)

pub nth_none : (paths : List (List ℕ)) (n : ℕ) → nth_path paths n ≡ None → take n paths ≡ paths
unfolding nth_path
nth_none [] zero e = refl
nth_none [] (suc n) e = refl
nth_none (p ∷ paths) zero e = absurd cc
nth_none (p ∷ paths) (suc n) e = ap (λ (w : List (List ℕ)). p ∷ w) (nth_none paths n e)

pub copied_some : (o : Option (Bor ℕ)) → is_some (option_copied o) ≡ is_some o
copied_some None = refl
copied_some (Some x) = refl

-- nothing is kept in an empty map
pub none_kept : (rows : BTreeMap (Vec ℕ) ℕ) → IsEmpty rows → (path : List ℕ) → kept_row rows path ≡ None
none_kept rows empty path = ap (λ (es : List (Vec ℕ × ℕ)). lookup (is_at (λ (k : Vec ℕ). slice_cmp nat_cmp path k.items)) es) empty

pub row_in_is : (paths : Option (List (List ℕ))) (path : List ℕ) → row_in paths path ≡ row_for paths (File (Some path))
row_in_is None path = refl
row_in_is (Some paths) path = refl

-- a table that isn't read has no rows
pub no_table : (r : Result FileTable Fault) (f : Fault) (paths : List (List ℕ)) → r ≡ Err f → Some (paths_read r) ≡ Some paths → (path : List ℕ) → row_of_path 0 paths path ≡ None
unfolding row_of_path
no_table r f paths refused is path =
    let none : Some [] ≡ Some paths = ap (λ (t : Result FileTable Fault). Some (paths_read t)) (sym refused) ∙ is in
    let same : [] ≡ paths = cc in
    ap (λ (ps : List (List ℕ)). row_of_path 0 ps path) (sym same)

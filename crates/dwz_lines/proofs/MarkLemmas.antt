-- Rows that are read on from a mark, and all of them.
use Rattle.std.proofs.Common.{◌≡◌, ℕ, zero, suc, ◌+◌, ◌-◌, ◌<◌, ◌≤◌, List, [], ◌∷◌, length, map, Option, Some, None, refl, sym, ap, ◌∙◌, arith}
use Rattle.std.specs.Prelude.{slice_get}
use Rattle.std.specs.Option.{option_map}
use Rattle.dwz_bytes.specs.Input.{Input}
use Rattle.dwz_def_reading.specs.LineTables.{PathRow, nth_path}
use Rattle.dwz_lines.specs.Marks.{Stands, nth_in, rows_up_to, with_rest}
use Rattle.dwz_lines.specs.Reading.{FindsAt, after_one, bind, path_in, path_of, path_or_none, times_in, with_one}
use Rattle.dwz_lines.proofs.LoopLemmas.{counted_down}
use Rattle.dwz_lines.proofs.PassLemmas.{times_len}

abbrev pub with_all : {X : Type 0} → List X → List X × Input → Option (List X × Input)
with_all xs r = Some (xs, r.1)

module _ {X : Type 0} (item : Input → Option (X × Input)) where
  -- ---- the item behind so many

  pub nth_first : (i : Input) (o : Option (X × Input)) → item i ≡ o → nth_in item 0 i ≡ bind o (λ x. Some x.0)
  unfolding nth_in
  nth_first i o is = ap (λ (p : Option (X × Input)). bind {Y = X} p (λ x. Some x.0)) is

  pub nth_more : (n : ℕ) (i : Input) (o : Option (X × Input)) → item i ≡ o → nth_in item (suc n) i ≡ bind o (λ x. nth_in item n x.1)
  unfolding nth_in
  nth_more n i o is = ap (λ (p : Option (X × Input)). bind {Y = X} p (λ x. nth_in item n x.1)) is

  pub skip_none : (n : ℕ) (i : Input) → item i ≡ None → nth_in item n i ≡ None
  skip_none zero i is = nth_first i None is
  skip_none (suc n) i is = nth_more n i None is

  pub skip_one : (n k : ℕ) (i : Input) → k < n → (x : X) (j : Input) → item i ≡ Some (x, j) → nth_in item (n - k) i ≡ nth_in item (n - (k + 1)) j
  skip_one n k i lt x j is = ap (λ (m : ℕ). nth_in item m i) (counted_down n k lt) ∙ nth_more (n - (k + 1)) i (Some (x, j)) is

  pub skip_all : (n k : ℕ) (i : Input) (o : Option (X × Input)) → n ≤ k → item i ≡ o → nth_in item (n - k) i ≡ bind o (λ x. Some x.0)
  skip_all n k i o le is = ap (λ (m : ℕ). nth_in item m i) (let none : n - k ≡ 0 = omega (arith, le) in none) ∙ nth_first i o is

  pub found_last : {R : Type 0} (view : R → X) (new : Input) (o : Option R) (n k : ℕ) (i : Input) → n ≤ k → FindsAt view new o (item i) → option_map view o ≡ nth_in item (n - k) i
  found_last view new None n k i le is = sym (skip_all n k i None le is)
  found_last view new (Some r) n k i le is = sym (skip_all n k i (Some (view r, new)) le is)

  pub nth_listed : (n k : ℕ) (i : Input) → k < n → slice_get (rows_up_to item n i) k ≡ nth_in item k i
  unfolding rows_up_to nth_in
  nth_listed zero k i lt = absurd (omega (arith, lt))
  nth_listed (suc n) zero i lt = by (item i) where
    by : (o : Option (X × Input)) → slice_get (with_rest (rows_up_to item n) o) 0 ≡ bind {Y = X} o (λ x. Some x.0)
    by None = refl
    by (Some x) = refl
  nth_listed (suc n) (suc k) i lt = by (item i) (λ j. nth_listed n k j (omega (arith, lt))) where
    by : (o : Option (X × Input)) → ((j : Input) → slice_get (rows_up_to item n j) k ≡ nth_in item k j) → slice_get (with_rest (rows_up_to item n) o) (suc k) ≡ bind {Y = X} o (λ x. nth_in item k x.1)
    by None others = refl
    by (Some x) others = others x.1

  -- ---- marks

  pub stands_first : (begin : Input) → Stands item begin 0 begin
  stands_first begin k = ap (λ (m : ℕ). nth_in item m begin) (omega arith)

  pub stands_next : (begin i : Input) (n : ℕ) → Stands item begin n i → (x : X) (j : Input) → item i ≡ Some (x, j) → Stands item begin (n + 1) j
  stands_next begin i n stands x j is k =
      let more : n + 1 + k ≡ n + suc k = omega arith in
      ap (λ (m : ℕ). nth_in item m begin) more ∙ stands (suc k) ∙ nth_more k i (Some (x, j)) is

  pub stands_listed : (begin i : Input) (n k count : ℕ) → Stands item begin n i → n ≤ k → k < count → nth_in item (k - n) i ≡ slice_get (rows_up_to item count begin) k
  stands_listed begin i n k count stands le lt =
      let same : n + (k - n) ≡ k = omega (arith, le) in
      sym (stands (k - n)) ∙ ap (λ (m : ℕ). nth_in item m begin) same ∙ sym (nth_listed count k begin lt)

  pub stands_from : (begin i : Input) → begin ≡ i → Stands item begin 0 i
  stands_from begin i same k = stands_first begin k ∙ ap (λ (j : Input). nth_in item k j) same

  -- ---- all of them

  some_same : (a b : List X × Input) → Some a ≡ Some b → a ≡ b
  some_same a b e = cc

  pub listed : (n : ℕ) (i : Input) (xs : List X) (j : Input) → times_in item n i ≡ Some (xs, j) → rows_up_to item n i ≡ xs
  unfolding times_in rows_up_to
  listed zero i xs j is = ap (λ (w : List X × Input). w.0) (some_same ([], i) (xs, j) is)
  listed (suc n) i xs j is = by (λ k ys was. listed n k ys j was) (item i) is where
    rest : (x : X) (k : Input) → ((ys : List X) → times_in item n k ≡ Some (ys, j) → rows_up_to item n k ≡ ys) → (o : Option (List X × Input)) → times_in item n k ≡ o → bind o (with_one x) ≡ Some (xs, j) → x ∷ rows_up_to item n k ≡ xs
    rest x k others None was e = absurd cc
    rest x k others (Some r) was e =
        let same = some_same (x ∷ r.0, r.1) (xs, j) e in
        let end : r.1 ≡ j = ap (λ (w : List X × Input). w.1) same in
        ap (λ (w : List X). x ∷ w) (others r.0 (was ∙ ap (λ (m : Input). Some (r.0, m)) end)) ∙ ap (λ (w : List X × Input). w.0) same

    by : ((k : Input) (ys : List X) → times_in item n k ≡ Some (ys, j) → rows_up_to item n k ≡ ys) → (o : Option (X × Input)) → bind o (after_one (times_in item n)) ≡ Some (xs, j) → with_rest (rows_up_to item n) o ≡ xs
    by others None e = absurd cc
    by others (Some x) e = rest x.0 x.1 (others x.1) (times_in item n x.1) refl e

  pub read_begins : (n : ℕ) (i : Input) → times_in item n i ≡ bind (times_in item n i) (with_all (rows_up_to item n i))
  read_begins n i = by (times_in item n i) refl where
    by : (o : Option (List X × Input)) → times_in item n i ≡ o → o ≡ bind o (with_all (rows_up_to item n i))
    by None is = refl
    by (Some r) is = ap (λ (w : List X). Some (w, r.1)) (sym (listed n i r.0 r.1 is))

  pub read_from : (n : ℕ) (begin i : Input) → begin ≡ i → times_in item n begin ≡ bind (times_in item (n - 0) i) (with_all (rows_up_to item n begin))
  read_from n begin i same =
      let all : n ≡ n - 0 = omega arith in
      read_begins n begin
      ∙ ap (λ (j : Input). bind (times_in item n j) (with_all (rows_up_to item n begin))) same
      ∙ ap (λ (m : ℕ). bind (times_in item m i) (with_all (rows_up_to item n begin))) all

  module _ (xs : List X) (n k : ℕ) (i : Input) (lt : k < n) where
    more : times_in item (n - k) i ≡ bind (item i) (after_one (times_in item (n - (k + 1))))
    unfolding times_in
    more = ap (λ (m : ℕ). times_in item m i) (counted_down n k lt)

    pub read_one : (x : X) (j : Input) → item i ≡ Some (x, j) → bind (times_in item (n - k) i) (with_all xs) ≡ bind (times_in item (n - (k + 1)) j) (with_all xs)
    read_one x j is =
        ap (λ (o : Option (List X × Input)). bind o (with_all xs)) (more ∙ ap (λ (o : Option (X × Input)). bind o (after_one (times_in item (n - (k + 1))))) is)
        ∙ by (times_in item (n - (k + 1)) j) where
          by : (o : Option (List X × Input)) → bind (bind o (with_one x)) (with_all xs) ≡ bind o (with_all xs)
          by None = refl
          by (Some r) = refl

    pub read_none : item i ≡ None → bind (times_in item (n - k) i) (with_all xs) ≡ None
    read_none is = ap (λ (o : Option (List X × Input)). bind o (with_all xs)) (more ∙ ap (λ (o : Option (X × Input)). bind o (after_one (times_in item (n - (k + 1))))) is)

  pub read_all : (xs : List X) (n k : ℕ) (i : Input) → n ≤ k → bind (times_in item (n - k) i) (with_all xs) ≡ Some (xs, i)
  unfolding times_in
  read_all xs n k i le = let none : n - k ≡ 0 = omega (arith, le) in ap (λ (m : ℕ). bind (times_in item m i) (with_all xs)) none

-- ---- paths by number

pub some_path : (rows : List PathRow) (n : ℕ) (r : PathRow) → slice_get rows n ≡ Some r → path_or_none (map path_of rows) n ≡ r.path
some_path [] n r is = absurd cc
some_path (t ∷ rows) zero r is = let same : t ≡ r = cc in ap path_of same
some_path (t ∷ rows) (suc n) r is = some_path rows n r is

pub no_path : (rows : List PathRow) (n : ℕ) → slice_get rows n ≡ None → path_or_none (map path_of rows) n ≡ []
no_path [] n is = refl
no_path (t ∷ rows) zero is = absurd cc
no_path (t ∷ rows) (suc n) is = no_path rows n is

-- the path of a file in a list of rows
pub listed_path : (dirs : List (List ℕ)) (rows : List PathRow) (n : ℕ) → nth_path (map (path_in dirs) rows) n ≡ option_map (path_in dirs) (slice_get rows n)
unfolding nth_path
listed_path dirs [] n = refl
listed_path dirs (t ∷ rows) zero = refl
listed_path dirs (t ∷ rows) (suc n) = listed_path dirs rows n

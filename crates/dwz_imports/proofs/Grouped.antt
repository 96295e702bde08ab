-- Lists that are grouped by their numbers are these lists.
use Rattle.std.proofs.Common.{◌≡◌, ℕ, zero, suc, ◌+◌, ◌<◌, ◌≤◌, ◌==◌, ◌||◌, if◌then◌else◌, Bool, true, false, List, [], ◌∷◌, ◌++◌, map, length, cond, refl, ap, ◌∙◌, inl, inr, arith, All}
use Rattle.std.proofs.Common.{eq-eqb, eqb-true}
use Rattle.std.specs.Prelude.{◌⊎◌, filter}
use Rattle.std.specs.List.{range_with_len}
use Rattle.dwz_codes.specs.Rows.{has}
use Rattle.dwz_model.specs.Lists.{In}
use Rattle.dwz_model.proofs.ListFacts.{in_cases}
use Rattle.dwz_model.proofs.Members.{in_map_from}
use Rattle.dwz_groups.specs.declared.groups.Edge.{Edge}
use Rattle.dwz_groups.specs.Groups.{grouped, values_at}
use Rattle.dwz_groups.proofs.MarkLemmas.{each_pair}
use Rattle.dwz_imports.specs.Stored.{edge, edges_of}

pub not_equal : (m n : ℕ) → (m ≡ n → ⊥) → (m == n) ≡ false
not_equal m n ne = by (m == n) refl where
  by : (b : Bool) → (m == n) ≡ b → (m == n) ≡ false
  by true e = absurd (ne (eqb-true m n e))
  by false e = e

abbrev value_of : Edge → ℕ
value_of p = p.value

pub values_front : (n : ℕ) (list : List ℕ) (rest : List Edge) → values_at (map (edge n) list ++ rest) n ≡ list ++ values_at rest n
unfolding values_at
values_front n [] rest = refl
values_front n (x ∷ list) rest =
    let all = filter (λ (p : Edge). p.key == n) (map (edge n) list ++ rest) in
    ap (λ (b : Bool). map value_of (cond b (edge n x ∷ all) all)) (eq-eqb n n refl) ∙ ap (λ (w : List ℕ). x ∷ w) (values_front n list rest)

pub values_other : (n k : ℕ) (list : List ℕ) (rest : List Edge) → (n ≡ k → ⊥) → values_at (map (edge n) list ++ rest) k ≡ values_at rest k
unfolding values_at
values_other n k [] rest ne = refl
values_other n k (x ∷ list) rest ne =
    let all = filter (λ (p : Edge). p.key == k) (map (edge n) list ++ rest) in
    ap (λ (b : Bool). map value_of (cond b (edge n x ∷ all) all)) (not_equal n k ne) ∙ values_other n k list rest ne

values_none : (s : ℕ) (lists : List (List ℕ)) (k : ℕ) → k < s → values_at (edges_of s lists) k ≡ []
unfolding values_at edges_of
values_none s [] k l = refl
values_none s (list ∷ lists) k l = values_other s k list (edges_of (suc s) lists) (λ e. omega (arith, l, e)) ∙ values_none (suc s) lists k (omega (arith, l))

map_range : (f g : ℕ → List ℕ) (a n : ℕ) → ((k : ℕ) → a ≤ k → f k ≡ g k) → map f (range_with_len a n) ≡ map g (range_with_len a n)
map_range f g a zero h = refl
map_range f g a (suc n) h = (λ i. h a (omega arith) i ∷ map_range f g (a + 1) n (λ k l. h k (omega (arith, l))) i)

back_from : (s : ℕ) (lists : List (List ℕ)) → map (values_at (edges_of s lists)) (range_with_len s (length lists)) ≡ lists
unfolding edges_of
back_from s [] = refl
back_from s (list ∷ lists) = (λ i. first i ∷ rest (back_from (suc s) lists) i) where
  nil : (xs : List ℕ) → xs ++ [] ≡ xs
  nil [] = refl
  nil (x ∷ xs) = ap (λ (w : List ℕ). x ∷ w) (nil xs)

  first : values_at (map (edge s) list ++ edges_of (suc s) lists) s ≡ list
  first = values_front s list (edges_of (suc s) lists) ∙ ap (λ (w : List ℕ). list ++ w) (values_none (suc s) lists s (omega arith)) ∙ nil list

  rest : map (values_at (edges_of (suc s) lists)) (range_with_len (suc s) (length lists)) ≡ lists
      → map (values_at (map (edge s) list ++ edges_of (suc s) lists)) (range_with_len (s + 1) (length lists)) ≡ lists
  rest more =
      let e : s + 1 ≡ suc s = omega arith in
      ap (λ (a : ℕ). map (values_at (map (edge s) list ++ edges_of (suc s) lists)) (range_with_len a (length lists))) e
      ∙ map_range (values_at (map (edge s) list ++ edges_of (suc s) lists)) (values_at (edges_of (suc s) lists)) (suc s) (length lists)
      (λ k l. values_other s k list (edges_of (suc s) lists) (λ q. omega (arith, l, q)))
      ∙ more

pub grouped_back : (lists : List (List ℕ)) → grouped (length lists) (edges_of 0 lists) ≡ lists
unfolding grouped
grouped_back lists = back_from 0 lists

key_low : (s : ℕ) (lists : List (List ℕ)) (p : Edge) → In p (edges_of s lists) → p.key < s + length lists
unfolding edges_of
key_low s [] p h = absurd h
key_low s (list ∷ lists) p h = by (in_cases p (map (edge s) list) (edges_of (suc s) lists) h) (key_low (suc s) lists p) where
  by : In p (map (edge s) list) ⊎ In p (edges_of (suc s) lists) → (In p (edges_of (suc s) lists) → p.key < suc s + length lists) → p.key < s + suc (length lists)
  by (inl a) more = let o = in_map_from (edge s) p list a in let e : s ≡ p.key = ap (λ (q : Edge). q.key) o.is in omega (arith, e)
  by (inr b) more = let l = more b in omega (arith, l)

pub keys_low : (lists : List (List ℕ)) (count : ℕ) → length lists ≡ count → All (λ (p : Edge). p.key < count) (edges_of 0 lists)
keys_low lists count e = each_pair (λ (p : Edge). p.key < count) (edges_of 0 lists) (λ p h. let l = key_low 0 lists p h in omega (arith, l, e))

-- ---- numbers among others

pub has_append : (n : ℕ) (xs ys : List ℕ) → has n (xs ++ ys) ≡ (has n xs || has n ys)
unfolding has
has_append n [] ys = refl
has_append n (x ∷ xs) ys = by (x == n) (has_append n xs ys) where
  by : (b : Bool) → has n (xs ++ ys) ≡ (has n xs || has n ys) → (if b then true else has n (xs ++ ys)) ≡ ((if b then true else has n xs) || has n ys)
  by true e = refl
  by false e = e

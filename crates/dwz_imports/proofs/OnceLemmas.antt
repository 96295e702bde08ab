-- Numbers each once, by marks.
use Rattle.std.proofs.Common.{◌≡◌, ℕ, zero, suc, ◌+◌, ◌<◌, ◌≤◌, ◌==◌, Bool, true, false, List, [], ◌∷◌, ◌++◌, map, length, get_or, set, take, cond, refl, sym, ap, subst, ◌∙◌, inl, inr, arith}
use Rattle.std.proofs.Common.{All, append-nil, if◌then◌else◌}
use Rattle.std.specs.Prelude.{filter, not}
use Rattle.std.proofs.Common.{get_or-set_other, get_or-set_same, eqb-true, eq-eqb}
use Rattle.std.proofs.lemmas.Bool.{cases_Bool, false≢true}
use Rattle.std.proofs.lemmas.List.{append_assoc, length-set, map-append, take_all}
use Rattle.std.proofs.lemmas.List.Elements.{All-set, filter-append}
use Rattle.std.proofs.Math.Seq.{take-suc}
use Rattle.dwz_codes.specs.Rows.{has}
use Rattle.dwz_groups.specs.declared.groups.Edge.{Edge}
use Rattle.dwz_imports.specs.Stored.{edge, edges_of, once_each}

abbrev pub unless_has : Bool → ℕ → List ℕ
unless_has true n = []
unless_has false n = n ∷ []

abbrev is_other : ℕ → ℕ → Bool
is_other n m = not (m == n)

pub eq_turned : (m n : ℕ) → (m == n) ≡ (n == m)
eq_turned m n = by (m == n) (n == m) refl refl where
  by : (a b : Bool) → (m == n) ≡ a → (n == m) ≡ b → (m == n) ≡ (n == m)
  by true true e f = e ∙ sym f
  by false false e f = e ∙ sym f
  by true false e f = absurd (false≢true (sym f ∙ eq-eqb n m (sym (eqb-true m n e))))
  by false true e f = absurd (false≢true (sym e ∙ eq-eqb m n (sym (eqb-true n m f))))

kept_other : (b : Bool) (y x : ℕ) → filter (is_other y) (unless_has b x) ≡ unless_has (if y == x then true else b) x
kept_other true y x = by (y == x) where
  by : (c : Bool) → [] ≡ unless_has (if c then true else true) x
  by true = refl
  by false = refl
kept_other false y x = ap (λ (c : Bool). cond (not c) (x ∷ []) []) (eq_turned x y) ∙ by (y == x) where
  by : (c : Bool) → cond (not c) (x ∷ []) [] ≡ unless_has (if c then true else false) x
  by true = refl
  by false = refl

-- one number more
pub once_more : (xs : List ℕ) (x : ℕ) → once_each (xs ++ x ∷ []) ≡ once_each xs ++ unless_has (has x xs) x
unfolding once_each has
once_more [] x = refl
once_more (y ∷ xs) x =
    ap (λ (w : List ℕ). y ∷ w) (ap (filter (is_other y)) (once_more xs x)
    ∙ filter-append (is_other y) (once_each xs) (unless_has (has x xs) x)
    ∙ ap (λ (w : List ℕ). filter (is_other y) (once_each xs) ++ w) (kept_other (has x xs) y x))

pub has_more : (n : ℕ) (xs : List ℕ) (x : ℕ) → has n (xs ++ x ∷ []) ≡ (if x == n then true else has n xs)
unfolding has
has_more n [] x = refl
has_more n (y ∷ xs) x = ap (λ (b : Bool). if y == n then true else b) (has_more n xs x) ∙ by (y == n) (x == n) where
  by : (a b : Bool) → (if a then true else (if b then true else has n xs)) ≡ (if b then true else (if a then true else has n xs))
  by true true = refl
  by true false = refl
  by false true = refl
  by false false = refl

-- Behind so many of the numbers: they were put under the key, each once, and the marks that are the highest are theirs.
pub record OnceSo (old now : List Edge) (count : ℕ) (marks : List ℕ) (key i : ℕ) (numbers : List ℕ) : Type 0 where
  pub edges : now ≡ old ++ map (edge key) (once_each (take i numbers))
  pub len : length marks ≡ count
  pub low : All (λ m. m ≤ key + 1) marks
  pub marked : (n : ℕ) → n < length marks → (get_or marks n 0 == (key + 1)) ≡ has n (take i numbers)

unequal : (m n : ℕ) → m < n → (m == n) ≡ false
unequal m n lt = by (m == n) refl where
  by : (b : Bool) → (m == n) ≡ b → (m == n) ≡ false
  by true e = absurd (let same = eqb-true m n e in omega (arith, lt, same))
  by false e = e

pub once_none : (old : List Edge) (marks : List ℕ) (key : ℕ) (numbers : List ℕ) → All (λ m. m ≤ key) marks → OnceSo old old (length marks) marks key 0 numbers
unfolding once_each has
once_none old marks key numbers low = record {
  edges = sym (append-nil old);
  len = refl;
  low = λ k d l. let le = low k d l in omega (arith, le);
  marked = λ n l. let le = low n 0 l in unequal (get_or marks n 0) (key + 1) (omega (arith, le));
}

next : (numbers : List ℕ) (i : ℕ) → i < length numbers → take (i + 1) numbers ≡ take i numbers ++ get_or numbers i 0 ∷ []
next numbers i l = let e : i + 1 ≡ suc i = omega arith in ap (λ (k : ℕ). take k numbers) e ∙ take-suc numbers i 0 l

if_both : (a b : Bool) → (a ≡ true → b ≡ true) → b ≡ (if a then true else b)
if_both true b h = h refl
if_both false b h = refl

pub once_pass : (old now : List Edge) (count : ℕ) (marks : List ℕ) (key i : ℕ) (numbers : List ℕ) (n : ℕ) → i < length numbers → n ≡ get_or numbers i 0 → n < length marks
    → get_or marks n 0 ≡ key + 1 → OnceSo old now count marks key i numbers → OnceSo old now count marks key (i + 1) numbers
once_pass old now count marks key i numbers n l is there mark h =
    let came : has n (take i numbers) ≡ true = sym (h.marked n there) ∙ eq-eqb (get_or marks n 0) (key + 1) mark in
    let more : take (i + 1) numbers ≡ take i numbers ++ n ∷ [] = next numbers i l ∙ ap (λ (k : ℕ). take i numbers ++ k ∷ []) (sym is) in
    let same : once_each (take i numbers) ≡ once_each (take (i + 1) numbers) =
    sym (ap once_each more ∙ once_more (take i numbers) n ∙ ap (λ (b : Bool). once_each (take i numbers) ++ unless_has b n) came ∙ append-nil (once_each (take i numbers))) in
    record {
      edges = h.edges ∙ ap (λ (w : List ℕ). old ++ map (edge key) w) same;
      len = h.len;
      low = h.low;
      marked = λ m lt. h.marked m lt
          ∙ if_both (n == m) (has m (take i numbers)) (λ e. ap (λ (k : ℕ). has k (take i numbers)) (sym (eqb-true n m e)) ∙ came)
          ∙ sym (ap (has m) more ∙ has_more m (take i numbers) n);
    }

pub once_put : (old now new : List Edge) (count : ℕ) (marks : List ℕ) (key i : ℕ) (numbers : List ℕ) (n : ℕ) → i < length numbers → n ≡ get_or numbers i 0 → n < length marks
    → (get_or marks n 0 ≡ key + 1 → ⊥) → new ≡ now ++ edge key n ∷ [] → OnceSo old now count marks key i numbers → OnceSo old new count (set marks n (key + 1)) key (i + 1) numbers
once_put old now new count marks key i numbers n l is there unmarked put h =
    let more : take (i + 1) numbers ≡ take i numbers ++ n ∷ [] = next numbers i l ∙ ap (λ (k : ℕ). take i numbers ++ k ∷ []) (sym is) in
    let fresh : has n (take i numbers) ≡ false = by (has n (take i numbers)) refl in
    let same : once_each (take (i + 1) numbers) ≡ once_each (take i numbers) ++ n ∷ [] =
    ap once_each more ∙ once_more (take i numbers) n ∙ ap (λ (b : Bool). once_each (take i numbers) ++ unless_has b n) fresh in
    record {
      edges = put ∙ ap (λ (w : List Edge). w ++ edge key n ∷ []) h.edges ∙ append_assoc old (map (edge key) (once_each (take i numbers))) (edge key n ∷ [])
          ∙ ap (λ (w : List Edge). old ++ w) (sym (map-append (edge key) (once_each (take i numbers)) (n ∷ [])) ∙ ap (map (edge key)) (sym same));
      len = length-set marks n (key + 1) ∙ h.len;
      low = All-set (λ m. m ≤ key + 1) marks n (key + 1) (omega arith) h.low;
      marked = λ m lt. (let low : m < length marks = omega (arith, lt, length-set marks n (key + 1)) in
          elim (cases_Bool (n == m)) [
            | inl e ↦ (let one = eqb-true n m e in
                ap (λ (k : ℕ). k == (key + 1)) (ap (λ (k : ℕ). get_or (set marks n (key + 1)) k 0) (sym one) ∙ get_or-set_same marks n (key + 1) 0 there) ∙ eq-eqb (key + 1) (key + 1) refl
                ∙ sym (ap (has m) more ∙ has_more m (take i numbers) n ∙ ap (λ (b : Bool). if b then true else has m (take i numbers)) e))
            | inr f ↦ ap (λ (k : ℕ). k == (key + 1)) (get_or-set_other marks n m (key + 1) 0 (λ e. false≢true (sym f ∙ eq-eqb n m (sym e)))) ∙ h.marked m low
                ∙ sym (ap (has m) more ∙ has_more m (take i numbers) n ∙ ap (λ (b : Bool). if b then true else has m (take i numbers)) f)
          ]);
    }
  where
    by : (b : Bool) → has n (take i numbers) ≡ b → has n (take i numbers) ≡ false
    by true e = absurd (unmarked (eqb-true (get_or marks n 0) (key + 1) (h.marked n there ∙ e)))
    by false e = e

pub once_all : (old now : List Edge) (count : ℕ) (marks : List ℕ) (key i : ℕ) (numbers : List ℕ) → length numbers ≤ i → OnceSo old now count marks key i numbers
    → now ≡ old ++ map (edge key) (once_each numbers)
once_all old now count marks key i numbers le h = h.edges ∙ ap (λ (w : List ℕ). old ++ map (edge key) (once_each w)) (take_all i numbers le)

-- ---- list by list

edges_more : (s i : ℕ) (lists : List (List ℕ)) → i < length lists → edges_of s (map once_each (take (suc i) lists)) ≡ edges_of s (map once_each (take i lists)) ++ map (edge (s + i)) (once_each
    (get_or lists i []))
unfolding edges_of
edges_more s i [] l = absurd (omega arith)
edges_more s zero (xs ∷ lists) l = append-nil (map (edge s) (once_each xs)) ∙ (let e : s ≡ s + 0 = omega arith in ap (λ (k : ℕ). map (edge k) (once_each xs)) e)
edges_more s (suc i) (xs ∷ lists) l =
    let e : suc s + i ≡ s + suc i = omega arith in
    ap (λ (w : List Edge). map (edge s) (once_each xs) ++ w) (edges_more (suc s) i lists (omega arith)
    ∙ ap (λ (k : ℕ). edges_of (suc s) (map once_each (take i lists)) ++ map (edge k) (once_each (get_or lists i []))) e)
    ∙ sym (append_assoc (map (edge s) (once_each xs)) (edges_of (suc s) (map once_each (take i lists))) (map (edge (s + suc i)) (once_each (get_or lists i []))))

pub edges_next : (i : ℕ) (lists : List (List ℕ)) (now new : List Edge) (list : List ℕ) → i < length lists → list ≡ get_or lists i [] → now ≡ edges_of 0 (map once_each (take i lists))
    → new ≡ now ++ map (edge i) (once_each list) → new ≡ edges_of 0 (map once_each (take (i + 1) lists))
edges_next i lists now new list l is was put =
    let e : suc i ≡ i + 1 = omega arith in
    let z : i ≡ 0 + i = omega arith in
    put ∙ (λ j. was j ++ map (edge (z j)) (once_each (is j))) ∙ sym (edges_more 0 i lists l) ∙ ap (λ (k : ℕ). edges_of 0 (map once_each (take k lists))) e

-- the same, where lists are given by equations
pub once_put_as : (old now new : List Edge) (count : ℕ) (marks after : List ℕ) (key i : ℕ) (numbers : List ℕ) (n : ℕ) → i < length numbers → n ≡ get_or numbers i 0 → n < length marks
    → (get_or marks n 0 ≡ key + 1 → ⊥) → new ≡ now ++ edge key n ∷ [] → after ≡ set marks n (key + 1) → OnceSo old now count marks key i numbers → OnceSo old new count after key (i + 1) numbers
once_put_as old now new count marks after key i numbers n l is there unmarked put mark h =
    subst (λ (ms : List ℕ). OnceSo old new count ms key (i + 1) numbers) (sym mark) (once_put old now new count marks key i numbers n l is there unmarked put h)

pub once_pass_as : (old now new : List Edge) (count : ℕ) (marks after : List ℕ) (key i : ℕ) (numbers : List ℕ) (n : ℕ) → i < length numbers → n ≡ get_or numbers i 0 → n < length marks
    → get_or marks n 0 ≡ key + 1 → new ≡ now → after ≡ marks → OnceSo old now count marks key i numbers → OnceSo old new count after key (i + 1) numbers
once_pass_as old now new count marks after key i numbers n l is there mark put same h =
    subst (λ (ms : List ℕ). OnceSo old new count ms key (i + 1) numbers) (sym same)
    (subst (λ (es : List Edge). OnceSo old es count marks key (i + 1) numbers) (sym put) (once_pass old now count marks key i numbers n l is there mark h))

pub no_edges : [] ≡ edges_of 0 (map once_each [])
unfolding edges_of
no_edges = refl

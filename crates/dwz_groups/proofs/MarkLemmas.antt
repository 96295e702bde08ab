-- Pairs under their keys: what stands in a list that was grouped.
use Rattle.std.proofs.Common.{◌≡◌, ℕ, zero, suc, ◌<◌, All, Bool, true, false, List, [], ◌∷◌, length, map, cond, refl, sym, ap, subst, inl, inr, ⊎_elim, arith}
use Rattle.std.specs.Prelude.{filter, ◌==◌}
use Rattle.std.proofs.lemmas.Bool.{cases_Bool, eq-eqb, eqb-true}
use Rattle.std.proofs.lemmas.List.FromFn.{get_or-map-range_with_len, length-map-range_with_len}
use Rattle.dwz_model.specs.Lists.{In}
use Rattle.dwz_groups.specs.declared.groups.Edge.{Edge}
use Rattle.dwz_groups.specs.Groups.{grouped, values_at}
use Rattle.dwz_groups.specs.Spreading.{sources_of}

abbrev pub pair : ℕ → ℕ → Edge
pair m n = record { key = m; value = n }

values_more : (p : Edge) (pairs : List Edge) (m : ℕ) (b : Bool) → (p.key == m) ≡ b → values_at (p ∷ pairs) m ≡ cond b (p.value ∷ values_at pairs m) (values_at pairs m)
unfolding values_at
values_more p pairs m true e = ap (λ (b : Bool). map (λ (q : Edge). q.value) (cond b (p ∷ filter (λ (q : Edge). q.key == m) pairs) (filter (λ (q : Edge). q.key == m) pairs))) e
values_more p pairs m false e = ap (λ (b : Bool). map (λ (q : Edge). q.value) (cond b (p ∷ filter (λ (q : Edge). q.key == m) pairs) (filter (λ (q : Edge). q.key == m) pairs))) e

values_in : (n : ℕ) (p : Edge) (pairs : List Edge) (m : ℕ) (b : Bool) → (p.key == m) ≡ b → In n (cond b (p.value ∷ values_at pairs m) (values_at pairs m)) → In n (values_at (p ∷ pairs) m)
values_in n p pairs m b e i = subst (λ (xs : List ℕ). In n xs) (sym (values_more p pairs m b e)) i

in_values : (n : ℕ) (p : Edge) (pairs : List Edge) (m : ℕ) (b : Bool) → (p.key == m) ≡ b → In n (values_at (p ∷ pairs) m) → In n (cond b (p.value ∷ values_at pairs m) (values_at pairs m))
in_values n p pairs m b e i = subst (λ (xs : List ℕ). In n xs) (values_more p pairs m b e) i

pub edge_values : (m n : ℕ) (pairs : List Edge) → In (pair m n) pairs → In n (values_at pairs m)
edge_values m n [] i = absurd i
edge_values m n (p ∷ pairs) (inl e) = values_in n p pairs m true (eq-eqb p.key m (ap (λ (q : Edge). q.key) e)) (inl (ap (λ (q : Edge). q.value) e))
edge_values m n (p ∷ pairs) (inr i) =
    let r = edge_values m n pairs i in ⊎_elim
    (λ (h : (p.key == m) ≡ true). values_in n p pairs m true h (inr r))
    (λ (h : (p.key == m) ≡ false). values_in n p pairs m false h r)
    (cases_Bool (p.key == m))

pub values_edge : (m n : ℕ) (pairs : List Edge) → In n (values_at pairs m) → In (pair m n) pairs
unfolding values_at
values_edge m n [] i = absurd i
values_edge m n (p ∷ pairs) i = ⊎_elim
    (λ (h : (p.key == m) ≡ true). ⊎_elim
    (λ (e : p.value ≡ n). inl (let k : p.key ≡ m = eqb-true p.key m h in λ j. record { key = k j; value = e j }))
    (λ j. inr (values_edge m n pairs j))
    (in_values n p pairs m true h i))
    (λ (h : (p.key == m) ≡ false). inr (values_edge m n pairs (in_values n p pairs m false h i)))
    (cases_Bool (p.key == m))

pub inside_at : (xs : List (List ℕ)) (m n : ℕ) → In n (sources_of xs m) → m < length xs
inside_at [] m n i = absurd i
inside_at (x ∷ xs) zero n i = omega arith
inside_at (x ∷ xs) (suc m) n i = let l = inside_at xs m n i in omega arith

grouped_at : (n m : ℕ) (pairs : List Edge) → m < n → sources_of (grouped n pairs) m ≡ values_at pairs m
unfolding grouped
grouped_at n m pairs l = get_or-map-range_with_len (values_at pairs) 0 n m m [] l (omega arith)

pub grouped_length : (n : ℕ) (pairs : List Edge) → length (grouped n pairs) ≡ n
unfolding grouped
grouped_length n pairs = length-map-range_with_len (values_at pairs) 0 n

-- what stands under a key below n
pub grouped_edge : (n m k : ℕ) (pairs : List Edge) → In k (sources_of (grouped n pairs) m) → In (pair m k) pairs
grouped_edge n m k pairs i =
    let low = inside_at (grouped n pairs) m k i in
    let len = grouped_length n pairs in
    values_edge m k pairs (subst (λ (xs : List ℕ). In k xs) (grouped_at n m pairs (omega arith)) i)

pub edge_grouped : (n m k : ℕ) (pairs : List Edge) → m < n → In (pair m k) pairs → In k (sources_of (grouped n pairs) m)
edge_grouped n m k pairs l i = subst (λ (xs : List ℕ). In k xs) (sym (grouped_at n m pairs l)) (edge_values m k pairs i)

-- what holds of each pair
pub each_pair : (P : Edge → Type 0) (ps : List Edge) → ((p : Edge) → In p ps → P p) → All P ps
each_pair P [] h k d l = absurd (omega arith)
each_pair P (p ∷ ps) h zero d l = h p (inl refl)
each_pair P (p ∷ ps) h (suc k) d l = each_pair P ps (λ q i. h q (inr i)) k d (omega arith)

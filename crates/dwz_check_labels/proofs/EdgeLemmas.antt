-- Pairs of labels and tops are grouped as the lists that they were made of.
use Rattle.std.proofs.Common.{◌≡◌, ℕ, suc, ◌+◌, ◌<◌, ◌≤◌, List, [], ◌∷◌, ◌++◌, length, map, refl, sym, ap, ◌∙◌, arith, eq-eqb, ne_eqb}
use Rattle.std.specs.Prelude.{Bool, ◌==◌, filter, if◌then◌else◌}
use Rattle.std.specs.List.{range_with_len}
use Rattle.std.proofs.lemmas.List.{append-nil, append_assoc, map-append}
use Rattle.std.proofs.lemmas.List.Elements.{filter-append}
use Rattle.dwz_groups.specs.declared.groups.Edge.{Edge}
use Rattle.dwz_groups.specs.Groups.{grouped, values_at}
use Rattle.dwz_check_labels.specs.Rows.{edge, edges_from}

both_values : (xs ys : List Edge) (k : ℕ) → values_at (xs ++ ys) k ≡ values_at xs k ++ values_at ys k
unfolding values_at
both_values xs ys k = ap (λ (w : List Edge). map (λ p. p.value) w) (filter-append (λ p. p.key == k) xs ys) ∙ map-append (λ (p : Edge). p.value) (filter (λ p. p.key == k) xs) (filter (λ p. p.key == k)
    ys)

own_values : (k : ℕ) (list : List ℕ) → values_at (map (edge k) list) k ≡ list
unfolding values_at
own_values k [] = refl
own_values k (t ∷ list) =
    ap (λ (b : Bool). map (λ (p : Edge). p.value) (if b then edge k t ∷ filter (λ p. p.key == k) (map (edge k) list) else filter (λ p. p.key == k) (map (edge k) list))) (eq-eqb k k refl)
    ∙ ap (λ (w : List ℕ). t ∷ w) (own_values k list)

other_values : (m k : ℕ) (list : List ℕ) → (m ≡ k → ⊥) → values_at (map (edge m) list) k ≡ []
unfolding values_at
other_values m k [] ne = refl
other_values m k (t ∷ list) ne =
    ap (λ (b : Bool). map (λ (p : Edge). p.value) (if b then edge m t ∷ filter (λ p. p.key == k) (map (edge m) list) else filter (λ p. p.key == k) (map (edge m) list))) (ne_eqb m k ne)
    ∙ other_values m k list ne

high_values : (m k : ℕ) (lists : List (List ℕ)) → k < m → values_at (edges_from m lists) k ≡ []
unfolding values_at
high_values m k [] lt = refl
high_values m k (list ∷ lists) lt =
    both_values (map (edge m) list) (edges_from (suc m) lists) k ∙ (λ i. other_values m k list (λ e. omega (arith, e, lt)) i ++ high_values (suc m) k lists (omega (arith, lt)) i)

-- lists whose first has that number
all_values : (pre : List Edge) (k : ℕ) (lists : List (List ℕ)) → ((j : ℕ) → k ≤ j → values_at pre j ≡ []) → map (values_at (pre ++ edges_from k lists)) (range_with_len k (length lists)) ≡ lists
all_values pre k [] low = refl
all_values pre k (list ∷ lists) low =
    let own = map (edge k) list in
    let rest = edges_from (suc k) lists in
    let first : values_at (pre ++ (own ++ rest)) k ≡ list =
    both_values pre (own ++ rest) k ∙ ap (λ (w : List ℕ). w ++ values_at (own ++ rest) k) (low k (omega arith)) ∙ both_values own rest k
    ∙ ap (λ (w : List ℕ). w ++ values_at rest k) (own_values k list) ∙ ap (λ (w : List ℕ). list ++ w) (high_values (suc k) k lists (omega arith)) ∙ append-nil list in
    let more : (j : ℕ) → suc k ≤ j → values_at (pre ++ own) j ≡ [] = λ j le. both_values pre own j ∙ (λ i. low j (omega (arith, le)) i ++ other_values k j list (λ e. omega (arith, e, le)) i) in
    let one : k + 1 ≡ suc k = omega arith in
    let others : map (values_at (pre ++ (own ++ rest))) (range_with_len (k + 1) (length lists)) ≡ lists =
    ap (λ (w : List Edge). map (values_at w) (range_with_len (k + 1) (length lists))) (sym (append_assoc pre own rest))
    ∙ ap (λ (n : ℕ). map (values_at ((pre ++ own) ++ rest)) (range_with_len n (length lists))) one ∙ all_values (pre ++ own) (suc k) lists more in
    (λ i. first i ∷ others i)

pub grouped_back : (count : ℕ) (edges : List Edge) (lists : List (List ℕ)) → count ≡ length lists → edges ≡ edges_from 0 lists → grouped count edges ≡ lists
unfolding grouped values_at
grouped_back count edges lists many are =
    ap (λ (n : ℕ). map (values_at edges) (range_with_len 0 n)) many ∙ ap (λ (w : List Edge). map (values_at w) (range_with_len 0 (length lists))) are ∙ all_values [] 0 lists (λ j le. refl)

-- Seeds and edges, one more at a time.
use Rattle.std.proofs.Common.{◌≡◌, ℕ, zero, suc, ◌+◌, ◌*◌, ◌<◌, ◌≤◌, ◌++◌, ◌-◌, true, false, List, [], ◌∷◌, Option, None, length, get_or, take, refl, sym, ap, ◌∙◌, arith}
use Rattle.std.proofs.Math.Nat.{mul-le-mul_left, mul-le-mul_right}
use Rattle.std.proofs.lemmas.Bool.{le-ltb, lt-ltb}
use Rattle.std.proofs.lemmas.List.{append-nil, append_assoc}
use Rattle.dwz_groups.specs.declared.groups.Edge.{Edge}
use Rattle.dwz_plan.specs.Gaining.{edge_to, edges_at, edges_from, edges_to, gains_alone, group_at, weight_at, weight_of}

pub weight_next : (ws ts : List ℕ) (i : ℕ) → i < length ts → weight_of ws (take i ts) + weight_at ws (get_or ts i 0) ≡ weight_of ws (take (suc i) ts)
unfolding weight_of
weight_next ws [] i l = absurd (omega arith)
weight_next ws (t ∷ ts) zero l = omega arith
weight_next ws (t ∷ ts) (suc i) l = let r = weight_next ws ts i (omega arith) in omega (arith, r)

pub edges_at_next : (groups : List (Option ℕ)) (from : ℕ) (ts : List ℕ) (i : ℕ) → i < length ts → edges_at groups from (take i ts) ++ edge_to from (group_at groups (get_or ts i 0))
    ≡ edges_at groups from (take (suc i) ts)
unfolding edges_at
edges_at_next groups from [] i l = absurd (omega arith)
edges_at_next groups from (t ∷ ts) zero l = sym (append-nil (edge_to from (group_at groups t)))
edges_at_next groups from (t ∷ ts) (suc i) l =
    append_assoc (edge_to from (group_at groups t)) (edges_at groups from (take i ts)) (edge_to from (group_at groups (get_or ts i 0)))
    ∙ ap (λ (ps : List Edge). edge_to from (group_at groups t) ++ ps) (edges_at_next groups from ts i (omega arith))

pub edges_next : (groups froms : List (Option ℕ)) (targets : List (List ℕ)) (i : ℕ) → i < length froms → i < length targets
    → edges_from groups (take i froms) (take i targets) ++ edges_to groups (get_or froms i None) (get_or targets i []) ≡ edges_from groups (take (suc i) froms) (take (suc i) targets)
unfolding edges_from
edges_next groups [] targets i l m = absurd (omega arith)
edges_next groups (f ∷ froms) [] i l m = absurd (omega arith)
edges_next groups (f ∷ froms) (ts ∷ targets) zero l m = sym (append-nil (edges_to groups f ts))
edges_next groups (f ∷ froms) (ts ∷ targets) (suc i) l m =
    append_assoc (edges_to groups f ts) (edges_from groups (take i froms) (take i targets)) (edges_to groups (get_or froms i None) (get_or targets i []))
    ∙ ap (λ (ps : List Edge). edges_to groups f ts ++ ps) (edges_next groups froms targets i (omega arith) (omega arith))

-- targets of more tops are no matter
pub edges_short : (groups froms : List (Option ℕ)) (targets : List (List ℕ)) (n : ℕ) → length froms ≤ n → edges_from groups froms (take n targets) ≡ edges_from groups froms targets
unfolding edges_from
edges_short groups [] targets n l = refl
edges_short groups (f ∷ froms) targets zero l = absurd (omega arith)
edges_short groups (f ∷ froms) [] (suc n) l = refl
edges_short groups (f ∷ froms) (ts ∷ targets) (suc n) l = ap (λ (ps : List Edge). edges_to groups f ts ++ ps) (edges_short groups froms targets n (omega arith))

-- ---- the test

pub test_few : (users weight : ℕ) → users < 2 → false ≡ gains_alone users weight
unfolding gains_alone
test_few users weight l =
    let none : (users - 1) * weight ≤ 0 * weight = mul-le-mul_right weight (omega arith) in
    sym (le-ltb (16 + 6 * users) ((users - 1) * weight) (omega (arith, none)))

-- a weight of 64 is enough
pub test_heavy : (users weight : ℕ) → 2 ≤ users → 64 ≤ weight → true ≡ gains_alone users weight
unfolding gains_alone
test_heavy users weight l h =
    let more : (users - 1) * 64 ≤ (users - 1) * weight = mul-le-mul_left (users - 1) h in
    sym (lt-ltb (16 + 6 * users) ((users - 1) * weight) (omega arith))

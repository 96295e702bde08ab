-- The targets of all nodes in one row: which stand before a target, and which behind it.
use Rattle.std.proofs.Common.{◌≡◌, ℕ, ◌+◌, ◌<◌, List, [], ◌∷◌, ◌++◌, length, take, drop, refl, sym, ap, ◌∙◌, arith, append_assoc, take-append-drop}
use Rattle.std.specs.Prelude.{slice_index, slice_range}
use Rattle.std.specs.List.{flat_map}
use Rattle.std.proofs.lemmas.List.{append-nil, drop_all, take_more}
use Rattle.std.proofs.lemmas.List.Concat.{flat_map-append, length-flat_map}
use Rattle.dwz_model.proofs.PartFacts.{split-drop}
use Rattle.dwz_nodes.specs.declared.Row.{Row}
use Rattle.dwz_nodes.specs.Graph.{Node, node, node_at, targets_at}
use Rattle.dwz_nodes.specs.Rooms.{all_targets}
use Rattle.dwz_nodes.specs.Rows.{nodes_of, AreEnds}
use Rattle.dwz_nodes.specs.Uses.{target_count}

pub all_targets-none : (g : List Node) → all_targets (take 0 g) ≡ []
unfolding all_targets
all_targets-none g = refl

pub all_targets-suc : (g : List Node) (n : ℕ) → n < length g → all_targets (take (n + 1) g) ≡ all_targets (take n g) ++ targets_at g n
unfolding all_targets
all_targets-suc g n l =
    let f : Node → List ℕ = λ q. q.targets in
    ap (flat_map f) (take_more g n (node 0 []) l) ∙ (flat_map-append f (take n g) (node_at g n ∷ []) ∙ ap (λ (xs : List ℕ). all_targets (take n g) ++ xs) (append-nil (targets_at g n)))

pub all_targets-split : (g : List Node) (n : ℕ) → all_targets g ≡ all_targets (take n g) ++ all_targets (drop n g)
unfolding all_targets
all_targets-split g n =
    let f : Node → List ℕ = λ q. q.targets in
    ap (flat_map f) (sym (take-append-drop n g)) ∙ flat_map-append f (take n g) (drop n g)

-- the targets that come before target j of node n
abbrev pub seen_at : List Node → ℕ → ℕ → List ℕ
seen_at g n j = all_targets (take n g) ++ take j (targets_at g n)

pub seen-none : (g : List Node) (n : ℕ) → all_targets (take n g) ≡ seen_at g n 0
seen-none g n = sym (append-nil (all_targets (take n g)))

pub seen-more : (g : List Node) (n j : ℕ) → j < length (targets_at g n) → seen_at g n (j + 1) ≡ seen_at g n j ++ slice_index (targets_at g n) j ∷ []
seen-more g n j l =
    let ts : List ℕ = targets_at g n in
    ap (λ (xs : List ℕ). all_targets (take n g) ++ xs) (take_more ts j 0 l) ∙ sym (append_assoc (all_targets (take n g)) (take j ts) (slice_index ts j ∷ []))

pub seen-rest : (g : List Node) (n j : ℕ) → n < length g → all_targets g ≡ seen_at g n j ++ (drop j (targets_at g n) ++ all_targets (drop (n + 1) g))
seen-rest g n j l =
    let ts : List ℕ = targets_at g n in
    let before : List ℕ = all_targets (take n g) in
    let after : List ℕ = all_targets (drop (n + 1) g) in
    all_targets-split g (n + 1)
    ∙ (ap (λ (xs : List ℕ). xs ++ after) (all_targets-suc g n l ∙ ap (λ (xs : List ℕ). before ++ xs) (sym (take-append-drop j ts)) ∙ sym (append_assoc before (take j ts) (drop j ts)))
    ∙ append_assoc (before ++ take j ts) (drop j ts) after)

all_targets-from : (start : ℕ) (rs : List Row) (ts : List ℕ) → AreEnds start rs (length ts) → all_targets (nodes_of start rs ts) ≡ drop start ts
unfolding all_targets
all_targets-from start [] ts e = sym (drop_all start ts (omega arith))
all_targets-from start (r ∷ rs) ts e = ap (λ (xs : List ℕ). slice_range ts start r.end ++ xs) (all_targets-from r.end rs ts e.1) ∙ split-drop ts start r.end e.0

-- the row of targets is that of all nodes
pub all_targets-nodes_of : (rs : List Row) (ts : List ℕ) → AreEnds 0 rs (length ts) → all_targets (nodes_of 0 rs ts) ≡ ts
all_targets-nodes_of rs ts e = all_targets-from 0 rs ts e

-- they are as many as those of each node together
pub length-all_targets : (g : List Node) → length (all_targets g) ≡ target_count g
unfolding all_targets
length-all_targets g = length-flat_map (λ (n : Node). n.targets) g

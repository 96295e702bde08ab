-- The rows of a top weigh what the top does, by induction over its tree.
use Rattle.std.proofs.Common.{◌≡◌, ℕ, suc, ◌+◌, Bool, true, false, List, [], ◌∷◌, ◌++◌, length, Ok, refl, sym, ap, subst, ◌∙◌, arith}
use Rattle.std.specs.Prelude.{nat_lt}
use Rattle.std.proofs.lemmas.Bool.{le-ltb, lt-ltb}
use Rattle.dwz_def_reading.specs.Entries.{RawEntry}
use Rattle.dwz_def_reading.specs.Trees.{End, Entry, Forest, Position, behind, first_below, size}
use Rattle.dwz_def_tops.specs.Spots.{EntryName, Top}
use Rattle.dwz_graph.specs.Rows.{nodes}
use Rattle.dwz_graph.proofs.TreeLemmas.{map_size, no_more, nodes_many, parts, same_size}
use Rattle.dwz_def_reading.specs.Documents.{Entries, Node, entries_map, node_map}
use Rattle.dwz_def_reading.specs.Meanings.{MeaningContext}
use Rattle.dwz_def_reading.specs.Meant.{entries_meaning}
use Rattle.dwz_def_plan.specs.Gain.{entries_weight, top_weight}
use Rattle.dwz_unit.specs.Rows.{EntryRow, rows_below}
use Rattle.dwz_unit.proofs.RowLemmas.{shown-length}
use Rattle.dwz_move.specs.Weights.{node_weight, rows_weight}

weight_append : (name : ℕ → EntryName) (i : ℕ) (xs ys : List EntryRow) (as' bs : List (Node ℕ)) → length xs ≡ length as' → rows_weight name i (xs ++ ys) (as' ++ bs) ≡ rows_weight name i xs as'
    + rows_weight name (i + length xs) ys bs
unfolding rows_weight
weight_append name i [] ys [] bs e = let z : i ≡ i + 0 = omega arith in let same = ap (λ (k : ℕ). rows_weight name k ys bs) z in omega arith
weight_append name i [] ys (a ∷ as') bs e = absurd (omega (arith, e))
weight_append name i (x ∷ xs) ys [] bs e = absurd (omega (arith, e))
weight_append name i (x ∷ xs) ys (a ∷ as') bs e =
    let more = weight_append name (i + 1) xs ys as' bs (omega (arith, e)) in
    let z : i + 1 + length xs ≡ i + suc (length xs) = omega arith in
    let same = ap (λ (k : ℕ). rows_weight name k ys bs) z in
    omega (arith, more, same)

-- whether there are entries below is whether the row ends later
parent : (i n : ℕ) (d : Node EntryName) (c : Entries EntryName) (w : ℕ) → n ≡ size c → node_weight (nat_lt (i + 1) (i + 1 + n)) d + (entries_weight c + w) ≡ entries_weight (Entry d c End) + w
unfolding entries_weight
parent i n d End w e =
    let no : nat_lt (i + 1) (i + 1 + n) ≡ false = le-ltb (i + 1) (i + 1 + n) (omega (arith, e)) in
    let own = ap (λ (b : Bool). node_weight b d) no in
    omega (arith, own)
parent i n d (Entry x f g) w e =
    let yes : nat_lt (i + 1) (i + 1 + n) ≡ true = lt-ltb (i + 1) (i + 1 + n) (omega (arith, e)) in
    let own = ap (λ (b : Bool). node_weight b d) yes in
    omega (arith, own)

pub tree_weighs : (s : MeaningContext ℕ) (name : ℕ → EntryName) (f : Forest RawEntry) (g : Entries ℕ) (unit : ℕ) (p : Position) → entries_meaning s f ≡ Ok g
    → rows_weight name p.before (rows_below f unit p) (nodes g) ≡ entries_weight (entries_map name g)
unfolding rows_below nodes rows_weight entries_map entries_weight
tree_weighs s name End g unit p h = subst (λ (w : Entries ℕ). rows_weight name p.before [] (nodes w) ≡ entries_weight (entries_map name w)) (no_more s g h) refl
tree_weighs s name (Entry e c n) g unit p h =
    let x = parts s e c n g h in
    let first = rows_below c unit (first_below p) in
    let rest = rows_below n unit (behind p c) in
    let many : length first ≡ size c = shown-length c unit (first_below p) in
    let count : length first ≡ length (nodes x.below) = omega (arith, many, nodes_many x.below, same_size s c x.below x.of_below) in
    let split = weight_append name (p.before + 1) first rest (nodes x.below) (nodes x.next) count in
    let below = tree_weighs s name c x.below unit (first_below p) x.of_below in
    let next = tree_weighs s name n x.next unit (behind p c) x.of_next in
    let place : p.before + 1 + length first ≡ p.before + 1 + size c = omega arith in
    let moved = ap (λ (k : ℕ). rows_weight name k rest (nodes x.next)) place in
    let large : size c ≡ size (entries_map name x.below) = omega (arith, map_size name x.below, same_size s c x.below x.of_below) in
    let own = parent p.before (size c) (node_map name x.d) (entries_map name x.below) (entries_weight (entries_map name x.next)) large in
    subst (λ (w : Entries ℕ). rows_weight name p.before (rows_below (Entry e c n) unit p) (nodes w) ≡ entries_weight (entries_map name w)) x.is
    (omega (arith, split, below, next, moved, own))

pub top_weighs : (s : MeaningContext ℕ) (name : ℕ → EntryName) (e : RawEntry) (c : Forest RawEntry) (d : Node ℕ) (g : Entries ℕ) (unit : ℕ) (p : Position) (t : Top)
    → entries_meaning s (Entry e c End) ≡ Ok (Entry d g End) → t.node ≡ node_map name d → t.below ≡ entries_map name g
    → rows_weight name p.before (rows_below (Entry e c End) unit p) (nodes (Entry d g End)) ≡ top_weight t
unfolding entries_map entries_weight
top_weighs s name e c d g unit p t h node below =
    let whole = tree_weighs s name (Entry e c End) (Entry d g End) unit p h in
    let none : entries_weight (Entry (node_map name d) (entries_map name g) End) ≡ top_weight (record t { node = node_map name d; below = entries_map name g }) = omega arith in
    whole ∙ none ∙ (λ i. top_weight (record t { node = sym node i; below = sym below i }))

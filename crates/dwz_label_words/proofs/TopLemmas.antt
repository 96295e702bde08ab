-- The rows of a top say what its marks do.
use Rattle.std.proofs.Common.{◌≡◌, ℕ, ◌+◌, ◌-◌, List, [], ◌∷◌, ◌++◌, length, Ok, sym, ap, ◌∙◌, arith}
use Rattle.std.proofs.lemmas.List.{append-nil, append_assoc}
use Rattle.dwz_def_reading.specs.Documents.{Entries, Node, entries_map, node_map}
use Rattle.dwz_def_reading.specs.Entries.{RawEntry}
use Rattle.dwz_def_reading.specs.Meanings.{MeaningContext}
use Rattle.dwz_def_reading.specs.Meant.{entries_meaning}
use Rattle.dwz_def_reading.specs.Trees.{End, Entry, Forest, Position, behind, first_below, size}
use Rattle.dwz_def_tops.specs.Spots.{EntryName, Top}
use Rattle.dwz_graph.specs.FlatTops.{HasTop}
use Rattle.dwz_graph.specs.Rows.{RowsMean, nodes}
use Rattle.dwz_graph.proofs.TreeLemmas.{map_size, no_more, parts, same_size, tree_means}
use Rattle.dwz_label_marks.specs.Marks.{Mark, entries_marks, node_marks}
use Rattle.dwz_label_words.specs.Told.{rows_marks}
use Rattle.dwz_unit.specs.Rows.{EntryRow, rows_below}
use Rattle.dwz_unit.proofs.RowLemmas.{shown-length}

marks_append : (s : MeaningContext ℕ) (name : ℕ → EntryName) (i j : ℕ) (xs ys : List EntryRow) (as' bs : List (Node ℕ)) → RowsMean s xs as' → i + length xs ≡ j
    → rows_marks name i (xs ++ ys) (as' ++ bs) ≡ rows_marks name i xs as' ++ rows_marks name j ys bs
unfolding rows_marks
marks_append s name i j [] ys [] bs h e = ap (λ (k : ℕ). rows_marks name k ys bs) (let z : i ≡ j = omega (arith, e) in z)
marks_append s name i j [] ys (a ∷ as') bs h e = absurd h
marks_append s name i j (x ∷ xs) ys [] bs h e = absurd h
marks_append s name i j (x ∷ xs) ys (a ∷ as') bs h e =
    let one = node_marks (x.end - i - 1) (node_map name a) in
    ap (λ (w : List Mark). one ++ w) (marks_append s name (i + 1) j xs ys as' bs h.1 (omega (arith, e))) ∙ sym (append_assoc one (rows_marks name (i + 1) xs as') (rows_marks name j ys bs))

tree_marks : (s : MeaningContext ℕ) (f : Forest RawEntry) (g : Entries ℕ) (unit : ℕ) (p : Position) (name : ℕ → EntryName) → entries_meaning s f ≡ Ok g
    → rows_marks name p.before (rows_below f unit p) (nodes g) ≡ entries_marks (entries_map name g)
unfolding rows_below nodes rows_marks entries_marks entries_map
tree_marks s End g unit p name h = ap (λ (w : Entries ℕ). rows_marks name p.before [] (nodes w)) (sym (no_more s g h)) ∙ ap (λ (w : Entries ℕ). entries_marks (entries_map name w)) (no_more s g h)
tree_marks s (Entry e c n) g unit p name h =
    let x = parts s e c n g h in
    let inside = rows_below c unit (first_below p) in
    let after = rows_below n unit (behind p c) in
    let len = shown-length c unit (first_below p) in
    let many : (behind p c).before - p.before - 1 ≡ size (entries_map name x.below) = omega (arith, map_size name x.below, same_size s c x.below x.of_below) in
    let below = tree_marks s c x.below unit (first_below p) name x.of_below in
    let next = tree_marks s n x.next unit (behind p c) name x.of_next in
    let both = marks_append s name (p.before + 1) (behind p c).before inside after (nodes x.below) (nodes x.next) (tree_means s c x.below unit (first_below p) x.of_below) (omega (arith, len)) in
    ap (λ (w : Entries ℕ). rows_marks name p.before (rows_below (Entry e c n) unit p) (nodes w)) (sym x.is)
    ∙ ap (λ (w : List Mark). node_marks ((behind p c).before - p.before - 1) (node_map name x.d) ++ w) both
    ∙ (λ i. node_marks (many i) (node_map name x.d) ++ (below i ++ next i))
    ∙ ap (λ (w : Entries ℕ). entries_marks (entries_map name w)) x.is

pub top_marks : (s : MeaningContext ℕ) (name : ℕ → EntryName) (rows : List EntryRow) (unit depth first : ℕ) (t : Top) (h : HasTop s name rows unit depth t.spaces t) → h.p.before ≡ first
    → rows_marks name first (rows_below (Entry h.e h.c End) unit h.p) (nodes (Entry h.d h.g End)) ≡ node_marks (size t.below) t.node ++ entries_marks t.below
unfolding entries_marks entries_map
top_marks s name rows unit depth first t h at =
    ap (λ (n : ℕ). rows_marks name n (rows_below (Entry h.e h.c End) unit h.p) (nodes (Entry h.d h.g End))) (sym at)
    ∙ tree_marks s (Entry h.e h.c End) (Entry h.d h.g End) unit h.p name h.means
    ∙ ap (λ (w : List Mark). node_marks (size (entries_map name h.g)) (node_map name h.d) ++ w) (append-nil (entries_marks (entries_map name h.g)))
    ∙ (λ i. node_marks (size (sym h.below i)) (sym h.node i) ++ entries_marks (sym h.below i))
